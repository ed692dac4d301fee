-- One bit more of a number, and one cell more of a store.
use Rattle.std.proofs.Common.{refl, ◌≡◌, ℕ, suc, ◌+◌, ◌-◌, ◌*◌, ◌<◌, ◌≤◌, ◌^◌, Bool, true, false}
use Rattle.std.proofs.Common.{List, [], ◌∷◌, ◌++◌, length, drop, get_or, sym, ap, subst, ◌∙◌, arith}
use Rattle.std.proofs.Common.{ℤ, append_assoc, drop-cons, add-one}
use Rattle.std.proofs.Math.Nat.{pow-suc}
use Rattle.std.proofs.Math.Pow.{pow_mono}
use Rattle.std.proofs.lemmas.List.{drop_all, append-nil}
use Rattle.cpa_ints.specs.declared.integers.IntType.{IntType}
use Rattle.cpa_blast_gates.specs.Gates.{lit_value}
use Rattle.cpa_blast_gates.specs.Laws.{literals_have_values}
use Rattle.cpa_blast_words.specs.Truths.{bit, values, number}
use Rattle.cpa_blast.specs.Formulas.{variables_from, value_at, store_at}

-- the number of the variables from a place on
abbrev pub number_from : (ℕ → Bool) → ℕ → ℕ → ℕ → ℕ
number_from m first width place =
    number (values m (variables_from (first + place) (width - place)))

pub one_bit : (m : ℕ → Bool) (first width place next : ℕ) → place ≡ suc next → place ≤ width
    → bit (m (first + next)) + 2 * number_from m first width place
    ≡ number_from m first width next
one_bit m first width place next is within =
    ap (λ b. bit b + 2 * number_from m first width place)
    (sym (literals_have_values.positive m (first + next)))
    ∙ ap (λ n. bit (lit_value m (2 * (first + next)))
    + 2 * number (values m (variables_from n (width - place)))) (up first place next is)
    ∙ ap (λ k. number (values m (variables_from (first + next) k)))
    (sym (left width place next is within))
  where
    up : (first place next : ℕ) → place ≡ suc next → first + place ≡ first + next + 1
    up first place next is = omega (arith, is)

    left : (width place next : ℕ) → place ≡ suc next → place ≤ width
        → width - next ≡ suc (width - place)
    left width place next is within = omega (arith, is)

bit_small : (b : Bool) → bit b ≤ 1
bit_small true = omega arith
bit_small false = omega arith

-- one bit more keeps the number below the power
pub one_power : (b : Bool) (n width place next : ℕ) → place ≡ suc next → place ≤ width
    → n < 2 ^ (width - place) → bit b + 2 * n < 2 ^ (width - next)
one_power b n width place next is within below =
    subst (λ k. bit b + 2 * n < 2 ^ k) (sym (left width place next is within))
    (doubled (bit b) n (2 ^ (width - place)) (2 ^ suc (width - place))
    (next_power (width - place)) (bit_small b) below)
  where
    left : (width place next : ℕ) → place ≡ suc next → place ≤ width
        → width - next ≡ suc (width - place)
    left width place next is within = omega (arith, is)

    next_power : (k : ℕ) → 2 ^ suc k ≡ 2 * 2 ^ k
    next_power k = omega (arith, pow-suc 2 k)

    doubled : (b n p q : ℕ) → q ≡ 2 * p → b ≤ 1 → n < p → b + 2 * n < q
    doubled b n p q e f g = omega (arith, e)

-- and a number of fewer than 64 bits has room for one more
pub has_room : (n width place next : ℕ) → place ≡ suc next → place ≤ width → width ≤ 64
    → n < 2 ^ (width - place) → n < 2 ^ 63
has_room n width place next is within small below =
    fits n (2 ^ (width - place)) below (half (width - place) (omega (arith, is)))
  where
    half : (k : ℕ) → k ≤ 63 → 2 ^ k ≤ 2 ^ 63
    half k h = pow_mono {i = k} {j = 63} h

    fits : (n p : ℕ) → n < p → p ≤ 2 ^ 63 → n < 2 ^ 63
    fits n p h k = omega arith

-- one cell more
read_here : {A : Type 0} (xs : List A) (i : ℕ) (d : A) → i < length xs
    → drop i xs ≡ get_or xs i d ∷ drop (i + 1) xs
read_here xs i d inside = rw (add-one, drop-cons xs i d inside) refl

pub one_cell : (cells : List IntType) (firsts : List ℕ) (truths : List Bool) (i : ℕ) (d : IntType)
    (e : ℕ) (old new all : List ℤ) → i < length cells → i < length firsts
    → new ≡ old ++ value_at (get_or cells i d) (get_or firsts i e) truths ∷ []
    → old ++ store_at (drop i cells) (drop i firsts) truths ≡ all
    → new ++ store_at (drop (i + 1) cells) (drop (i + 1) firsts) truths ≡ all
one_cell cells firsts truths i d e old new all in_cells in_firsts pushed so_far =
    let v = value_at (get_or cells i d) (get_or firsts i e) truths in
    let rest = store_at (drop (i + 1) cells) (drop (i + 1) firsts) truths in
    ap (λ vs. vs ++ rest) pushed
    ∙ append_assoc old (v ∷ []) rest
    ∙ sym (ap (λ ts. old ++ store_at ts (drop i firsts) truths) (read_here cells i d in_cells)
    ∙ ap (λ fs. old ++ store_at (get_or cells i d ∷ drop (i + 1) cells) fs truths)
    (read_here firsts i e in_firsts))
    ∙ so_far

pub last_cell : (cells : List IntType) (firsts : List ℕ) (truths : List Bool) (i : ℕ)
    (old all : List ℤ) → length cells ≤ i
    → old ++ store_at (drop i cells) (drop i firsts) truths ≡ all → old ≡ all
last_cell cells firsts truths i old all past so_far =
    sym (append-nil old)
    ∙ sym (ap (λ ts. old ++ store_at ts (drop i firsts) truths) (drop_all i cells past)) ∙ so_far
