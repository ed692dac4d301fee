-- What stands in the clause of a list of literals, and that it is sorted.
use Rattle.std.proofs.Common.{◌≡◌, ℕ, ◌+◌, ◌<◌, ◌≤◌, Bool, true, false, ◌||◌, List, [], ◌∷◌}
use Rattle.std.proofs.Common.{inl, inr, refl, sym, ap, ◌∙◌, arith}
use Rattle.std.specs.Prelude.{◌==◌, nat_lt, if◌then◌else◌}
use Rattle.std.specs.List.{list_any, AllByRecursion}
use Rattle.std.proofs.lemmas.Bool.{cond_both, eqb-true, eqb-false, ltb-true, ltb-false, or_cases}
use Rattle.std.proofs.lemmas.Bool.{or_left, or_right, eq-eqb}
use Rattle.cpa_cnf.specs.Clauses.{has, AscendsFrom, IsClause}
use Rattle.cpa_blast_gates.specs.Clauses.{with_literal, clause_of}

or_idem : (x b : Bool) → (x || b) ≡ (x || (x || b))
or_idem true b = refl
or_idem false b = refl

or_swap : (x y b : Bool) → (x || (y || b)) ≡ (y || (x || b))
or_swap true true b = refl
or_swap true false b = refl
or_swap false true b = refl
or_swap false false b = refl

module _ (p : ℕ → Bool) where
  any_with : (l : ℕ) (c : List ℕ) → list_any p (with_literal l c) ≡ (p l || list_any p c)
  any_with l [] = refl
  any_with l (x ∷ xs) =
      cond_both (nat_lt l x) (l ∷ x ∷ xs) (if l == x then x ∷ xs else x ∷ with_literal l xs)
      (λ c. list_any p c ≡ (p l || (p x || list_any p xs))) (λ _. refl)
      (λ _. cond_both (l == x) (x ∷ xs) (x ∷ with_literal l xs)
      (λ c. list_any p c ≡ (p l || (p x || list_any p xs)))
      (λ e. or_idem (p x) (list_any p xs)
      ∙ ap (λ k. p k || (p x || list_any p xs)) (sym (eqb-true l x e)))
      (λ _. ap (λ b. p x || b) (any_with l xs) ∙ or_swap (p x) (p l) (list_any p xs)))

  pub any_clause : (ls : List ℕ) → list_any p (clause_of ls) ≡ list_any p ls
  any_clause [] = refl
  any_clause (l ∷ ls) = any_with l (clause_of ls) ∙ ap (λ b. p l || b) (any_clause ls)

  -- some literal of the clause passes
  pub any_from_has : (c : List ℕ) (l : ℕ) → has c l ≡ true → p l ≡ true → list_any p c ≡ true
  any_from_has [] l h e = absurd (cc)
  any_from_has (x ∷ xs) l h e =
      elim (or_cases (x == l) (has xs l) h) [
        | inl f ↦ or_left (p x) (list_any p xs) (ap p (eqb-true x l f) ∙ e)
        | inr f ↦ or_right (p x) (list_any p xs) (any_from_has xs l f e)
      ]

  pub has_from_any : (c : List ℕ) → list_any p c ≡ true
      → (l : ℕ) × (has c l ≡ true) × (p l ≡ true)
  has_from_any [] h = absurd (cc)
  has_from_any (x ∷ xs) h =
      elim (or_cases (p x) (list_any p xs) h) [
        | inl e ↦ (x, or_left (x == x) (has xs x) (eq-eqb x x refl), e)
        | inr e ↦ let rest = has_from_any xs e in
            (rest.0, or_right (x == rest.0) (has xs rest.0) rest.1, rest.2)
      ]

has_as_any : (c : List ℕ) (l : ℕ) → has c l ≡ list_any (λ x. x == l) c
has_as_any [] l = refl
has_as_any (x ∷ xs) l = ap (λ b. (x == l) || b) (has_as_any xs l)

pub has_clause : (ls : List ℕ) (l : ℕ) → has (clause_of ls) l ≡ has ls l
has_clause ls l =
    has_as_any (clause_of ls) l ∙ any_clause (λ x. x == l) ls ∙ sym (has_as_any ls l)

ascends_with : (n l : ℕ) (c : List ℕ) → n ≤ l → AscendsFrom n c → AscendsFrom n (with_literal l c)
ascends_with n l [] le up = (le, tt)
ascends_with n l (x ∷ xs) le up =
    cond_both (nat_lt l x) (l ∷ x ∷ xs) (if l == x then x ∷ xs else x ∷ with_literal l xs)
    (AscendsFrom n) (λ e. (le, (above l x (ltb-true l x e), up.1)))
    (λ e. cond_both (l == x) (x ∷ xs) (x ∷ with_literal l xs) (AscendsFrom n) (λ _. up)
    (λ ne. (
      up.0,
      ascends_with (x + 1) l xs
          (beyond l x (ltb-false l x e) (eqb-false l x ne)) up.1,
    )))
  where
    above : (l x : ℕ) → l < x → l + 1 ≤ x
    above l x h = omega arith

    beyond : (l x : ℕ) → x ≤ l → (l ≡ x → ⊥) → x + 1 ≤ l
    beyond l x h ne = omega arith

pub clause_is : (ls : List ℕ) → IsClause (clause_of ls)
clause_is [] = tt
clause_is (l ∷ ls) = ascends_with 0 l (clause_of ls) (omega arith) (clause_is ls)

module _ (P : ℕ → Type 0) where
  all_with : (l : ℕ) (c : List ℕ) → P l → AllByRecursion P c → AllByRecursion P (with_literal l c)
  all_with l [] h all = (h, tt)
  all_with l (x ∷ xs) h all =
      cond_both (nat_lt l x) (l ∷ x ∷ xs) (if l == x then x ∷ xs else x ∷ with_literal l xs)
      (AllByRecursion P) (λ _. (h, all))
      (λ _. cond_both (l == x) (x ∷ xs) (x ∷ with_literal l xs) (AllByRecursion P) (λ _. all)
      (λ _. (all.0, all_with l xs h all.1)))

  pub all_clause : (ls : List ℕ) → AllByRecursion P ls → AllByRecursion P (clause_of ls)
  all_clause [] all = tt
  all_clause (l ∷ ls) all = all_with l (clause_of ls) all.0 (all_clause ls all.1)
