-- A clause true by a literal of a variable of one kind, and what resolution keeps of that.
use Rattle.std.proofs.Common.{◌≡◌, ℕ, ◌/◌, ◌%◌, Bool, true, false, not, cond, List}
use Rattle.std.proofs.Common.{◌⊎◌, inl, inr, sym, ap, ◌∙◌, arith}
use Rattle.std.specs.Prelude.{slice_index_or}
use Rattle.std.proofs.lemmas.Bool.{cases_eq, eq-eqb, ne_eqb, false≢true}
use Rattle.cpa_cnf.specs.Literals.{opposite}
use Rattle.cpa_cnf.specs.Clauses.{has}
use Rattle.cpa_cnf.specs.Resolution.{IsResolvent}
use Rattle.cpa_cnf.specs.Models.{value_of_literal}
use Rattle.cpa_cnf.specs.lemmas.Chains.{union_keeps_first, union_keeps_second, clash_of_pivot}

-- some literal of the clause is true, and its variable passes the test
abbrev pub SatisfiesBy : (ℕ → Bool) → List Bool → List ℕ → Type 0
SatisfiesBy test values clause =
    (l : ℕ) × (has clause l ≡ true) × (value_of_literal values l ≡ true) × (test (l / 2) ≡ true)

abbrev by_sign : Bool → Bool → Bool
by_sign even value = cond even value (not value)

not_both : (b : Bool) → b ≡ true → not b ≡ true → ⊥
not_both true h k = false≢true k
not_both false h k = false≢true h

same_variable : (l : ℕ) → opposite l / 2 ≡ l / 2
same_variable l = omega arith

even_opposite : (l : ℕ) → l % 2 ≡ 0 → opposite l % 2 ≡ 0 → ⊥
even_opposite l even other = omega arith

odd_opposite : (l : ℕ) → (l % 2 ≡ 0 → ⊥) → opposite l % 2 ≡ 0
odd_opposite l odd = omega arith

-- a literal and its opposite are not both true
opposites : (values : List Bool) (l : ℕ) → value_of_literal values l ≡ true
    → value_of_literal values (opposite l) ≡ true → ⊥
opposites values l here there = go (cases_eq (l % 2) 0)
  where
    moved : (b : Bool) → by_sign b (slice_index_or values (opposite l / 2) false)
        ≡ by_sign b (slice_index_or values (l / 2) false)
    moved b = ap (λ k. by_sign b (slice_index_or values k false)) (same_variable l)

    go : (l % 2 ≡ 0) ⊎ (l % 2 ≡ 0 → ⊥) → ⊥
    go (inl even) =
        not_both (slice_index_or values (l / 2) false)
        (sym (ap (λ b. by_sign b (slice_index_or values (l / 2) false)) (eq-eqb (l % 2) 0 even))
        ∙ here)
        (sym (ap (λ b. by_sign b (slice_index_or values (opposite l / 2) false))
        (ne_eqb (opposite l % 2) 0 (even_opposite l even)) ∙ moved false) ∙ there)
    go (inr odd) =
        not_both (slice_index_or values (l / 2) false)
        (sym (ap (λ b. by_sign b (slice_index_or values (opposite l / 2) false))
        (eq-eqb (opposite l % 2) 0 (odd_opposite l odd)) ∙ moved true) ∙ there)
        (sym (ap (λ b. by_sign b (slice_index_or values (l / 2) false)) (ne_eqb (l % 2) 0 odd))
        ∙ here)

-- both clauses are true by such literals, and so the resolvent is
pub resolvent_true : (test : ℕ → Bool) (values : List Bool) (a b : List ℕ) (pivot : ℕ) (r : List ℕ)
    → IsResolvent a b pivot r → SatisfiesBy test values a → SatisfiesBy test values b
    → SatisfiesBy test values r
resolvent_true test values a b pivot r res (la, in_a, true_a, by_a) (lb, in_b, true_b, by_b) =
    first (cases_eq la res.literal)
  where
    second : la ≡ res.literal → (lb ≡ opposite res.literal) ⊎ (lb ≡ opposite res.literal → ⊥)
        → SatisfiesBy test values r
    second e (inl f) =
        absurd (opposites values res.literal
        (ap (λ l. value_of_literal values l) (sym e) ∙ true_a)
        (ap (λ l. value_of_literal values l) (sym f) ∙ true_b))
    second e (inr ne) = (
      lb,
      res.union lb ∙ union_keeps_second (has a) (has b) res.literal lb ne in_b,
      true_b,
      by_b,
    )

    first : (la ≡ res.literal) ⊎ (la ≡ res.literal → ⊥) → SatisfiesBy test values r
    first (inl e) = second e (cases_eq lb (opposite res.literal))
    first (inr ne) = (
      la,
      res.union la ∙ union_keeps_first (has a) (has b) res.literal la ne in_a,
      true_a,
      by_a,
    )

-- the literal on which two clauses clash is one of the pivot, and so is its opposite
of_pivot : (a b : List ℕ) (pivot : ℕ) (r : List ℕ) (res : IsResolvent a b pivot r)
    → res.literal / 2 ≡ pivot
of_pivot a b pivot r res =
    elim (clash_of_pivot (has a) (has b) pivot res.literal res.clash) [
      | inl e ↦ omega (arith, e)
      | inr e ↦ omega (arith, e)
    ]

-- a literal of another variable than the pivot stays
pub kept_first : (test : ℕ → Bool) (values : List Bool) (a b : List ℕ) (pivot : ℕ) (r : List ℕ)
    → IsResolvent a b pivot r → test pivot ≡ false → SatisfiesBy test values a
    → SatisfiesBy test values r
kept_first test values a b pivot r res fails (l, in_a, true_a, by_a) = (
  l,
  res.union l ∙ union_keeps_first (has a) (has b) res.literal l other in_a,
  true_a,
  by_a,
)
  where
    other : l ≡ res.literal → ⊥
    other e =
        false≢true (sym fails
        ∙ ap test (sym (ap (λ k. k / 2) e ∙ of_pivot a b pivot r res)) ∙ by_a)

pub kept_second : (test : ℕ → Bool) (values : List Bool) (a b : List ℕ) (pivot : ℕ) (r : List ℕ)
    → IsResolvent a b pivot r → test pivot ≡ false → SatisfiesBy test values b
    → SatisfiesBy test values r
kept_second test values a b pivot r res fails (l, in_b, true_b, by_b) = (
  l,
  res.union l ∙ union_keeps_second (has a) (has b) res.literal l other in_b,
  true_b,
  by_b,
)
  where
    other : l ≡ opposite res.literal → ⊥
    other e =
        false≢true (sym fails
        ∙ ap test (sym (ap (λ k. k / 2) e ∙ same_variable res.literal
        ∙ of_pivot a b pivot r res)) ∙ by_b)
