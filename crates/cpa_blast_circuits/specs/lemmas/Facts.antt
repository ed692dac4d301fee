-- What literals and words say of numbers at a type: whether one is 0, and the int of a truth value.
use Rattle.std.proofs.Common.{◌≡◌, ◌≢◌, ℕ, zero, suc, ◌*◌, ◌<◌, Bool, true, false, not, List, ◌∷◌}
use Rattle.std.proofs.Common.{length, replicate, Option, None, Some, refl, sym, ap, subst, ◌∙◌}
use Rattle.std.proofs.Common.{arith, ℤ, pos, negsuc, int_lt}
use Rattle.std.specs.Prelude.{◌==◌, nat_le, nat_lt, IsTrue, int_le}
use Rattle.std.proofs.Math.Nat.{mod-eq_of_lt}
use Rattle.std.proofs.lemmas.Nat.{pow_pos}
use Rattle.std.proofs.lemmas.Bool.{leb-true, leb-false, ltb-true, ltb-false}
use Rattle.std.proofs.lemmas.List.{length-replicate}
use Rattle.cpa_ints.specs.declared.integers.IntType.{IntType}
use Rattle.cpa_ints.specs.declared.integers.IntType.TheVariants.{Bool as Boolean}
use Rattle.cpa_ints.specs.declared.integers.IntType.TheVariants as ty
use Rattle.cpa_ints.specs.Integers.{width, IsInRange}
use Rattle.cpa_ints.specs.Bits.{bits_of}
use Rattle.cpa_ints.specs.lemmas.WrapLaws.{zero_within}
use Rattle.cpa_cnf.specs.Lines.{AreBelow}
use Rattle.cpa_blast_gates.specs.declared.gate.Gate.{Gate}
use Rattle.cpa_blast_gates.specs.Gates.{lit_value}
use Rattle.cpa_blast_gates.specs.Nets.{Holds}
use Rattle.cpa_blast_gates.specs.Laws.{literals_have_values}
use Rattle.cpa_blast_words.specs.Truths.{values, number}
use Rattle.cpa_blast_words.specs.Types.{StandsFor}
use Rattle.cpa_blast_words.specs.Laws.{comparisons_compare, words_are_numbers, words_are_equal}
use Rattle.cpa_blast_words.specs.lemmas.WordMeanings.{values_repeated}
use Rattle.cpa_expr.specs.Shape.{is_arithmetic}
use Rattle.cpa_expr.specs.Values.{truth, is_nonzero}
use Rattle.cpa_blast_circuits.specs.Answers.{flag}

pub no_bits : (t : IntType) → bits_of t (pos 0) ≡ 0
no_bits t = mod-eq_of_lt (pow_pos (width t))

-- a word has a true bit where its number is nonzero
pub nonzero : (t : IntType) (bs : List Bool) (n : ℤ) → IsInRange t n
    → StandsFor t bs n → not (number bs == 0) ≡ is_nonzero n
nonzero t bs n range stands =
    let zeros = replicate (length bs) false in
    let long = length-replicate (length bs) false in
    ap not (ap (λ k. number bs == k) (sym (words_are_numbers.falses (length bs)))
    ∙ sym (comparisons_compare.equal bs zeros (sym long))
    ∙ words_are_equal t bs zeros n (pos 0) range (zero_within t) stands
    (record {
      long = long ∙ stands.long;
      is = words_are_numbers.falses (length bs) ∙ sym (no_bits t);
    }))

flag_stands : (b : Bool) → StandsFor ty.I32 (b ∷ replicate 31 false) (truth b)
flag_stands true = record { long = refl; is = refl }
flag_stands false = record { long = refl; is = refl }

-- the int of a literal
pub flagged : (net : List Gate) (m : ℕ → Bool) (l : ℕ) (b : Bool) → Holds m net
    → lit_value m l ≡ b → StandsFor ty.I32 (values m (flag l)) (truth b)
flagged net m l b holds is =
    subst (λ bs. StandsFor ty.I32 bs (truth b))
    (sym (ap (λ c. c ∷ values m (replicate 31 1)) is
    ∙ ap (λ bs. b ∷ bs) (values_repeated m 31 1
    ∙ ap (replicate 31) (literals_have_values.falsehood net m holds))))
    (flag_stands b)

pub flag_below : (n l : ℕ) → l < 2 * n → AreBelow n (flag l)
flag_below n l below = (below, falses 31)
  where
    falses : (k : ℕ) → AreBelow n (replicate k 1)
    falses zero = tt
    falses (suc k) = (omega arith, falses k)

pub other_than_bool : (t : IntType) → IsTrue (is_arithmetic t) → t ≢ Boolean
other_than_bool t is e = let at = ap is_arithmetic e in absurd (cc)

some_or : {A : Type 0} → A → Option A → A
some_or d None = d
some_or d (Some a) = a

pub same_some : {A : Type 0} (a b : A) → ◌≡◌ {A = Option A} (Some a) (Some b) → a ≡ b
unfolding some_or
same_some a b e = ap (some_or a) e

le_lt : (a b : ℕ) → nat_le a b ≡ not (nat_lt b a)
le_lt a b = by (nat_le a b) (nat_lt b a) refl refl
  where
    by : (x y : Bool) → nat_le a b ≡ x → nat_lt b a ≡ y → x ≡ not y
    by true true e f = let p = leb-true a b e in let q = ltb-true b a f in absurd (omega arith)
    by true false e f = refl
    by false true e f = refl
    by false false e f = let p = leb-false a b e in let q = ltb-false b a f in absurd (omega arith)

pub int_le_lt : (a b : ℤ) → int_le a b ≡ not (int_lt b a)
int_le_lt (pos a) (pos b) = le_lt a b
int_le_lt (pos a) (negsuc b) = refl
int_le_lt (negsuc a) (pos b) = refl
int_le_lt (negsuc a) (negsuc b) = le_lt b a
