-- The value of a literal: by its variable and sign, of the opposite one, under two assignments
-- that agree.
use Rattle.std.proofs.Common.{◌≡◌, ℕ, ◌*◌, ◌/◌, ◌%◌, ◌<◌, Bool, true, false, not, cond, inl, inr}
use Rattle.std.proofs.Common.{List, refl, sym, ap, ◌∙◌, arith}
use Rattle.std.specs.Prelude.{◌==◌}
use Rattle.std.proofs.lemmas.Bool.{cases_eq, eqb-true, eqb-false}
use Rattle.cpa_cnf.specs.Literals.{opposite}
use Rattle.cpa_cnf.specs.Models.{value_of_literal}
use Rattle.cpa_blast_gates.specs.Gates.{lit_value}
use Rattle.cpa_blast_gates.specs.Clauses.{assigned}
use Rattle.cpa_blast_gates.specs.Meanings.{Agrees}

even : (m : ℕ → Bool) (l v : ℕ) → l % 2 ≡ 0 → l / 2 ≡ v
    → cond (l % 2 == 0) (m (l / 2)) (not (m (l / 2))) ≡ m v
even m l v r q = ap (λ k. cond (k == 0) (m (l / 2)) (not (m (l / 2)))) r ∙ ap m q

odd : (m : ℕ → Bool) (l v : ℕ) → l % 2 ≡ 1 → l / 2 ≡ v
    → cond (l % 2 == 0) (m (l / 2)) (not (m (l / 2))) ≡ not (m v)
odd m l v r q =
    ap (λ k. cond (k == 0) (m (l / 2)) (not (m (l / 2)))) r ∙ ap (λ w. not (m w)) q

not_not : (b : Bool) → b ≡ not (not b)
not_not true = refl
not_not false = refl

pub lit_even : (m : ℕ → Bool) (l v : ℕ) → l % 2 ≡ 0 → l / 2 ≡ v → lit_value m l ≡ m v
unfolding lit_value
lit_even m l v r q = even m l v r q

pub lit_odd : (m : ℕ → Bool) (l v : ℕ) → l % 2 ≡ 1 → l / 2 ≡ v → lit_value m l ≡ not (m v)
unfolding lit_value
lit_odd m l v r q = odd m l v r q

pub lit_positive : (m : ℕ → Bool) (v : ℕ) → lit_value m (2 * v) ≡ m v
lit_positive m v = lit_even m (2 * v) v (omega arith) (omega arith)

pub lit_opposite : (m : ℕ → Bool) (l : ℕ) → lit_value m (opposite l) ≡ not (lit_value m l)
lit_opposite m l =
    elim (cases_eq (l % 2) 0) [
      | inl e ↦ lit_odd m (opposite l) (l / 2) (omega arith) (omega arith)
          ∙ ap not (sym (lit_even m l (l / 2) e refl))
      | inr ne ↦ lit_even m (opposite l) (l / 2) (omega arith) (omega arith)
          ∙ not_not (m (l / 2)) ∙ ap not (sym (lit_odd m l (l / 2) (omega arith) refl))
    ]

-- the literals of variable 0
pub lit_always : (m : ℕ → Bool) (l : ℕ) → m 0 ≡ true → l ≡ 0 → lit_value m l ≡ true
lit_always m l t e = lit_even m l 0 (omega arith) (omega arith) ∙ t

pub lit_never : (m : ℕ → Bool) (l : ℕ) → m 0 ≡ true → l ≡ 1 → lit_value m l ≡ false
lit_never m l t e = lit_odd m l 0 (omega arith) (omega arith) ∙ ap not t

-- a literal by the positive one of its variable
pub lit_negative : (m : ℕ → Bool) (l : ℕ) → (l % 2 == 1) ≡ true
    → lit_value m l ≡ not (lit_value m (2 * (l / 2)))
lit_negative m l h =
    let e = eqb-true (l % 2) 1 h in
    lit_odd m l (l / 2) e refl ∙ ap not (sym (lit_positive m (l / 2)))

pub lit_plain : (m : ℕ → Bool) (l : ℕ) → (l % 2 == 1) ≡ false
    → lit_value m l ≡ lit_value m (2 * (l / 2))
lit_plain m l h =
    let ne = eqb-false (l % 2) 1 h in
    lit_even m l (l / 2) (even_where l ne) refl ∙ sym (lit_positive m (l / 2))
  where
    even_where : (l : ℕ) → (l % 2 ≡ 1 → ⊥) → l % 2 ≡ 0
    even_where l ne = omega arith

pub lit_local : (n : ℕ) (m k : ℕ → Bool) (l : ℕ) → Agrees n m k → l < 2 * n
    → lit_value m l ≡ lit_value k l
unfolding lit_value
lit_local n m k l agrees below =
    ap (λ b. cond (l % 2 == 0) b (not b)) (agrees (l / 2) (omega arith))

-- as models of formulas read literals
pub lit_as_model : (values : List Bool) (l : ℕ)
    → lit_value (assigned values) l ≡ value_of_literal values l
unfolding lit_value
lit_as_model values l = refl
