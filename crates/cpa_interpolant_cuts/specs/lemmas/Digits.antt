-- A bit of the number that a word stands for is the value of its variable.
use Rattle.std.proofs.Common.{◌≡◌, ℕ, zero, suc, ◌+◌, ◌*◌, ◌/◌, ◌%◌, ◌<◌, ◌^◌, Bool, true, false}
use Rattle.std.proofs.Common.{List, [], ◌∷◌, Some, refl, sym, ap, ◌∙◌, arith, pos}
use Rattle.std.specs.Prelude.{◌==◌, slice_get, slice_index_or}
use Rattle.std.proofs.Math.Nat.{pow-suc, mul_comm, div-div-eq-div-mul}
use Rattle.cpa_ints.specs.declared.integers.IntType.{IntType}
use Rattle.cpa_ints.specs.Integers.{width}
use Rattle.cpa_blast_gates.specs.Gates.{lit_value}
use Rattle.cpa_blast_gates.specs.Clauses.{assigned}
use Rattle.cpa_blast_gates.specs.Laws.{literals_have_values}
use Rattle.cpa_blast_circuits.specs.lemmas.Facts.{same_some}
use Rattle.cpa_blast_words.specs.Truths.{bit, values, number}
use Rattle.cpa_blast.specs.Formulas.{variables_from, place_of, value_at, store_at}
use Rattle.cpa_blast.specs.lemmas.Stores.{model_stands, model_ranges}
use Rattle.cpa_interpolant_bits.specs.Bits.{bit_of}
use Rattle.cpa_interpolant_bits.specs.Laws.{bits_are_read}

-- a digit of a number is the bit at its place
digit : (m : ℕ → Bool) (n first j : ℕ) → j < n
    → (number (values m (variables_from first n)) / 2 ^ j % 2 == 1) ≡ m (first + j)
digit m zero first j inside = absurd (omega (arith, inside))
digit m (suc n) first zero inside =
    low (lit_value m (2 * first)) (number (values m (variables_from (first + 1) n)))
    ∙ literals_have_values.positive m first ∙ ap m (none first)
  where
    none : (k : ℕ) → k ≡ k + 0
    none k = omega arith

    whole : (k : ℕ) → k / 2 ^ 0 ≡ k
    whole k = omega arith

    low : (b : Bool) (k : ℕ) → ((bit b + 2 * k) / 2 ^ 0 % 2 == 1) ≡ b
    low true k =
        ap (λ i. i % 2 == 1) (whole (1 + 2 * k)) ∙ ap (λ i. i == 1) (odd k)
      where
        odd : (k : ℕ) → (1 + 2 * k) % 2 ≡ 1
        odd k = omega arith
    low false k =
        ap (λ i. i % 2 == 1) (whole (0 + 2 * k)) ∙ ap (λ i. i == 1) (even k)
      where
        even : (k : ℕ) → (0 + 2 * k) % 2 ≡ 0
        even k = omega arith
digit m (suc n) first (suc j) inside =
    ap (λ i. i % 2 == 1) (high (lit_value m (2 * first))
    (number (values m (variables_from (first + 1) n))) j)
    ∙ digit m n (first + 1) j (omega (arith, inside)) ∙ ap m (next first j)
  where
    next : (k j : ℕ) → k + 1 + j ≡ k + suc j
    next k j = omega arith

    half : (b : Bool) (k : ℕ) → (bit b + 2 * k) / 2 ≡ k
    half true k = omega arith
    half false k = omega arith

    high : (b : Bool) (k j : ℕ) → (bit b + 2 * k) / 2 ^ suc j ≡ k / 2 ^ j
    high b k j =
        ap (λ p. (bit b + 2 * k) / p) (pow-suc 2 j ∙ mul_comm (2 ^ j) 2)
        ∙ sym (div-div-eq-div-mul (bit b + 2 * k) 2 (2 ^ j)) ∙ ap (λ n. n / 2 ^ j) (half b k)

-- the value of a cell in the store
at_cell : (truths : List Bool) (cells : List IntType) (firsts : List ℕ) (c first : ℕ) (t : IntType)
    → slice_get cells c ≡ Some t → slice_get firsts c ≡ Some first
    → slice_index_or (store_at cells firsts truths) c (pos 0) ≡ value_at t first truths
at_cell truths [] firsts c first t ty at = absurd (cc)
at_cell truths (u ∷ cells) [] c first t ty at = absurd (cc)
at_cell truths (u ∷ cells) (f ∷ firsts) zero first t ty at =
    ap (λ k. value_at k f truths) (same_some u t ty)
    ∙ ap (λ k. value_at t k truths) (same_some f first at)
at_cell truths (u ∷ cells) (f ∷ firsts) (suc c) first t ty at =
    at_cell truths cells firsts c first t ty at

pub bit_is_variable : (truths : List Bool) (j v first : ℕ) (t : IntType) → j < width t
    → v ≡ first + j → (cells : List IntType) (firsts : List ℕ) (c : ℕ)
    → slice_get cells c ≡ Some t → slice_get firsts c ≡ Some first
    → bit_of j (slice_index_or (store_at cells firsts truths) c (pos 0))
    ≡ slice_index_or truths v false
bit_is_variable truths j v first t inside is cells firsts c ty at =
    let m = assigned truths in
    let stands = (model_stands truths (place_of t true first ∷ [])).0 in
    let range = (model_ranges truths (t ∷ []) (first ∷ []) refl).0 in
    ap (bit_of j) (at_cell truths cells firsts c first t ty at)
    ∙ bits_are_read.own t (value_at t first truths) j range inside
    ∙ ap (λ k. k / 2 ^ j % 2 == 1) (sym stands.is) ∙ digit m (width t) first j inside
    ∙ ap m (sym is)
