-- Answers of the parts of a node, in one net: what they mean under the assignments that have P, and
-- what follows for the node in terms of literals and words.
use Rattle.std.proofs.Common.{◌≡◌, ℕ, ◌*◌, ◌<◌, Bool, true, false, not, ◌&&◌, ◌||◌, List, length}
use Rattle.std.proofs.Common.{Option, None, Some, refl, sym, ap, ◌∙◌, ℤ, pos}
use Rattle.std.specs.Prelude.{IfSome, option_map, option_and_then, if◌then◌else◌}
use Rattle.std.specs.Option.{is_some}
use Rattle.cpa_ints.specs.declared.integers.IntType.{IntType}
use Rattle.cpa_ints.specs.declared.integers.IntType.TheVariants as ty
use Rattle.cpa_ints.specs.Integers.{width, IsInRange}
use Rattle.cpa_cnf.specs.Lines.{AreBelow}
use Rattle.cpa_blast_gates.specs.declared.gate.Gate.{Gate}
use Rattle.cpa_blast_gates.specs.Gates.{lit_value}
use Rattle.cpa_blast_gates.specs.Nets.{vars, Holds, Built}
use Rattle.cpa_blast_gates.specs.Meanings.{Grows}
use Rattle.cpa_blast_words.specs.Truths.{values}
use Rattle.cpa_blast_words.specs.Types.{StandsFor}
use Rattle.cpa_blast_words.specs.lemmas.Columns.{still_below}
use Rattle.cpa_blast_words.specs.lemmas.WalkMeanings.{all_still_below}
use Rattle.cpa_expr.specs.Values.{truth, is_nonzero, evaluated, logical_and, logical_or, truth_of}
use Rattle.cpa_expr.specs.Values.{conditional}
use Rattle.cpa_blast_circuits.specs.declared.answer.Answer.{Answer}
use Rattle.cpa_blast_words.specs.Values.{AreOperands}
use Rattle.cpa_blast_circuits.specs.Meanings.{IsAnswer}

-- a value of the type, wherever there is one
abbrev pub IsRanged : ((ℕ → Bool) → Type 0) → IntType → Option ℤ → Type 0
IsRanged P t v = (m : ℕ → Bool) → P m → IfSome v (IsInRange t)

-- an answer in the net, with the value v of type t
pub record IsReady (P : (ℕ → Bool) → Type 0) (net : List Gate) (a : Answer) (t : IntType)
    (v : Option ℤ) : Type 0
  where
    pub ty : a.ty ≡ t
    pub bits_below : AreBelow (vars net) a.bits
    pub ok_below : a.ok < 2 * vars net
    pub long : length a.bits ≡ width t
    pub is : (m : ℕ → Bool) → P m → Holds m net → IsAnswer m t a v

-- an answer made from the net s
pub record MakesReady (P : (ℕ → Bool) → Type 0) (s : List Gate) (made : Built Answer) (t : IntType)
    (v : Option ℤ) : Type 0
  where
    pub grows : Grows s made.net
    pub ready : IsReady P made.net made.value t v

-- an answer stays one in a larger net
pub still_ready : (P : (ℕ → Bool) → Type 0) (s net : List Gate) (a : Answer) (t : IntType)
    (v : Option ℤ) → Grows s net → IsReady P s a t v → IsReady P net a t v
still_ready P s net a t v grows r = record {
  ty = r.ty;
  bits_below = all_still_below s net a.bits grows r.bits_below;
  ok_below = still_below s net a.ok grows r.ok_below;
  long = r.long;
  is = λ m p holds. r.is m p (grows.keeps m holds);
}

module _ (m : ℕ → Bool) (t : IntType) (a : Answer) where
  -- one operand, and an operator that has a value for each
  pub mapped : (u : IntType) (c : Answer) (f : ℤ → ℤ) (v : Option ℤ) → IsAnswer m t a v
      → IfSome v (IsInRange t) → lit_value m c.ok ≡ lit_value m a.ok
      → ((n : ℤ) → IsInRange t n → StandsFor t (values m a.bits) n
      → StandsFor u (values m c.bits) (f n))
      → IsAnswer m u c (option_map f v)
  mapped u c f None is range ok step = record { ok = ok ∙ is.ok; bits = tt }
  mapped u c f (Some n) is range ok step = record { ok = ok ∙ is.ok; bits = step n range is.bits }

  -- one operand, and an operator that has a value where the test is true
  pub bound : (u : IntType) (c : Answer) (f : ℤ → Option ℤ) (test : Bool) (v : Option ℤ)
      → IsAnswer m t a v → IfSome v (IsInRange t) → lit_value m c.ok ≡ (lit_value m a.ok && test)
      → ((n : ℤ) → IsInRange t n → StandsFor t (values m a.bits) n → test ≡ is_some (f n))
      → ((n r : ℤ) → IsInRange t n → StandsFor t (values m a.bits) n → f n ≡ Some r
      → StandsFor u (values m c.bits) r)
      → IsAnswer m u c (option_and_then f v)
  bound u c f test None is range ok tests step =
      record { ok = ok ∙ ap (λ b. b && test) is.ok; bits = tt }
  bound u c f test (Some n) is range ok tests step = record {
    ok = ok ∙ ap (λ b. b && test) is.ok ∙ tests n range is.bits;
    bits = by (f n) refl;
  }
    where
      by : (r : Option ℤ) → f n ≡ r → IfSome r (StandsFor u (values m c.bits))
      by None e = tt
      by (Some r) e = step n r range is.bits e

  module _ (u : IntType) (b : Answer) where
    -- two operands, and an operator that has a value where the test is true
    pub paired : (s : IntType) (c : Answer) (f : ℤ → ℤ → Option ℤ) (test : Bool) (v w : Option ℤ)
        → IsAnswer m t a v → IsAnswer m u b w → IfSome v (IsInRange t) → IfSome w (IsInRange u)
        → lit_value m c.ok ≡ ((lit_value m a.ok && lit_value m b.ok) && test)
        → ((x y : ℤ) → AreOperands t u (values m a.bits) (values m b.bits) x y
        → test ≡ is_some (f x y))
        → ((x y r : ℤ) → AreOperands t u (values m a.bits) (values m b.bits) x y → f x y ≡ Some r
        → StandsFor s (values m c.bits) r)
        → IsAnswer m s c (evaluated f v w)
    paired s c f test None w is_a is_b range_a range_b ok tests step =
        record { ok = ok ∙ ap (λ z. (z && lit_value m b.ok) && test) is_a.ok; bits = tt }
    paired s c f test (Some x) None is_a is_b range_a range_b ok tests step = record {
      ok = ok ∙ ap (λ z. (z && lit_value m b.ok) && test) is_a.ok ∙ ap (λ z. z && test) is_b.ok;
      bits = tt;
    }
    paired s c f test (Some x) (Some y) is_a is_b range_a range_b ok tests step =
        let operands : AreOperands t u (values m a.bits) (values m b.bits) x y = record {
          left_range = range_a;
          right_range = range_b;
          left = is_a.bits;
          right = is_b.bits;
        } in
        record {
          ok = ok ∙ ap (λ z. (z && lit_value m b.ok) && test) is_a.ok ∙ ap (λ z. z && test) is_b.ok
              ∙ tests x y operands;
          bits = by (f x y) refl;
        }
      where
        by : (r : Option ℤ) → f x y ≡ r → IfSome r (StandsFor s (values m c.bits))
        by None e = tt
        by (Some r) e = step x y r (record {
          left_range = range_a;
          right_range = range_b;
          left = is_a.bits;
          right = is_b.bits;
        }) e

    -- the right side counts only where the left one is nonzero
    pub both_answered : (c : Answer) (left right : Bool) (v w : Option ℤ) → IsAnswer m t a v
        → IsAnswer m u b w → IfSome v (λ n. left ≡ is_nonzero n)
        → IfSome w (λ n. right ≡ is_nonzero n)
        → lit_value m c.ok ≡ (lit_value m a.ok && (not left || lit_value m b.ok))
        → StandsFor ty.I32 (values m c.bits) (truth (left && right))
        → IsAnswer m ty.I32 c (logical_and v w)
    both_answered c left right None w is_a is_b lefts rights ok flag =
        record { ok = ok ∙ ap (λ z. z && (not left || lit_value m b.ok)) is_a.ok; bits = tt }
    both_answered c left right (Some x) w is_a is_b lefts rights ok flag =
        by left (is_nonzero x) lefts
        (ok ∙ ap (λ z. z && (not left || lit_value m b.ok)) is_a.ok) flag w is_b rights
      where
        by : (l n : Bool) → l ≡ n → lit_value m c.ok ≡ (not l || lit_value m b.ok)
            → StandsFor ty.I32 (values m c.bits) (truth (l && right)) → (w : Option ℤ)
            → IsAnswer m u b w → IfSome w (λ k. right ≡ is_nonzero k)
            → IsAnswer m ty.I32 c (if n then truth_of w else Some (pos 0))
        by true true e good flag None is rights = record { ok = good ∙ is.ok; bits = tt }
        by true true e good flag (Some y) is rights = record {
          ok = good ∙ is.ok;
          bits = rw (sym rights) flag;
        }
        by false false e good flag w is rights = record { ok = good; bits = flag }
        by true false e good flag w is rights = absurd (cc)
        by false true e good flag w is rights = absurd (cc)

    -- the right side counts only where the left one is zero
    pub either_answered : (c : Answer) (left right : Bool) (v w : Option ℤ) → IsAnswer m t a v
        → IsAnswer m u b w → IfSome v (λ n. left ≡ is_nonzero n)
        → IfSome w (λ n. right ≡ is_nonzero n)
        → lit_value m c.ok ≡ (lit_value m a.ok && (left || lit_value m b.ok))
        → StandsFor ty.I32 (values m c.bits) (truth (left || right))
        → IsAnswer m ty.I32 c (logical_or v w)
    either_answered c left right None w is_a is_b lefts rights ok flag =
        record { ok = ok ∙ ap (λ z. z && (left || lit_value m b.ok)) is_a.ok; bits = tt }
    either_answered c left right (Some x) w is_a is_b lefts rights ok flag =
        by left (is_nonzero x) lefts
        (ok ∙ ap (λ z. z && (left || lit_value m b.ok)) is_a.ok) flag w is_b rights
      where
        by : (l n : Bool) → l ≡ n → lit_value m c.ok ≡ (l || lit_value m b.ok)
            → StandsFor ty.I32 (values m c.bits) (truth (l || right)) → (w : Option ℤ)
            → IsAnswer m u b w → IfSome w (λ k. right ≡ is_nonzero k)
            → IsAnswer m ty.I32 c (if n then Some (pos 1) else truth_of w)
        by false false e good flag None is rights = record { ok = good ∙ is.ok; bits = tt }
        by false false e good flag (Some y) is rights = record {
          ok = good ∙ is.ok;
          bits = rw (sym rights) flag;
        }
        by true true e good flag w is rights = record { ok = good; bits = flag }
        by true false e good flag w is rights = absurd (cc)
        by false true e good flag w is rights = absurd (cc)

-- of two ends the one counts that the test picks
pub end_answered : (m : ℕ → Bool) (u t : IntType) (a first second c : Answer) (test : Bool)
    (v w z : Option ℤ) → IsAnswer m u a v → IsAnswer m t first w → IsAnswer m t second z
    → IfSome v (λ n. test ≡ is_nonzero n)
    → lit_value m c.ok ≡ (lit_value m a.ok
    && (if test then lit_value m first.ok else lit_value m second.ok))
    → values m c.bits ≡ (if test then values m first.bits else values m second.bits)
    → IsAnswer m t c (conditional v w z)
end_answered m u t a first second c test None w z is is_first is_second tests ok bits = record {
  ok = ok
      ∙ ap (λ b. b && (if test then lit_value m first.ok else lit_value m second.ok)) is.ok;
  bits = tt;
}
end_answered m u t a first second c test (Some n) w z is is_first is_second tests ok bits =
    by test (is_nonzero n) tests
    (ok ∙ ap (λ b. b && (if test then lit_value m first.ok else lit_value m second.ok)) is.ok) bits
  where
    same : (d : Answer) (r : Option ℤ) → IsAnswer m t d r → lit_value m c.ok ≡ lit_value m d.ok
        → values m c.bits ≡ values m d.bits → IsAnswer m t c r
    same d None is good e = record { ok = good ∙ is.ok; bits = tt }
    same d (Some k) is good e = record { ok = good ∙ is.ok; bits = rw e is.bits }

    by : (b k : Bool) → b ≡ k
        → lit_value m c.ok ≡ (if b then lit_value m first.ok else lit_value m second.ok)
        → values m c.bits ≡ (if b then values m first.bits else values m second.bits)
        → IsAnswer m t c (if k then w else z)
    by true true e good bits = same first w is_first good bits
    by false false e good bits = same second z is_second good bits
    by true false e good bits = absurd (cc)
    by false true e good bits = absurd (cc)
