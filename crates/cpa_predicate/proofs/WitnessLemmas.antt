-- Stores to which an edge leads answer questions about it.
use Rattle.std.proofs.Common.{◌≡◌, ℕ, ℤ, Bool, List, [], ◌∷◌, subst, inl, inr, arith, length}
use Rattle.std.proofs.Common.{get_or}
use Rattle.std.specs.Prelude.{◌<◌, ◌≤◌, zero, suc, IsTrue, true, false}
use Rattle.std.specs.List.{AllByRecursion}
use Rattle.cpa_expr.specs.declared.tree.Expr.{Expr}
use Rattle.cpa_expr.specs.declared.tree.Store.{Store}
use Rattle.cpa_expr.specs.Values.{HasTruth}
use Rattle.cpa_model.specs.declared.facts.Elem.{Elem}
use Rattle.cpa_model.specs.declared.automaton.Edge.{Edge}
use Rattle.cpa_model.specs.declared.automaton.Cfa.{Cfa}
use Rattle.cpa_predicate.specs.Steps.{StepsFrom, HasAfter, IsAfter, SomeLacks}

-- no test is both
pub clash : (b : Bool) → b ≡ false → IsTrue b → ⊥
clash true is h = cc
clash false is h = cc

-- the store of a place lacks the truth
pub lacks_here : (p : Expr) (holds : Bool) (xs : List Store) (i : ℕ) (x : Store)
    → i < length xs → x ≡ get_or xs i x → (HasTruth x.values p holds → ⊥)
    → SomeLacks p holds xs
lacks_here p holds [] i x less is lacks = absurd (omega (arith, less))
lacks_here p holds (y ∷ ys) zero x less is lacks =
    inl (subst (λ (s : Store). HasTruth s.values p holds → ⊥) is lacks)
lacks_here p holds (y ∷ ys) (suc i) x less is lacks =
    inr (lacks_here p holds ys i x (omega (arith, less)) is lacks)

module _ (cfa : Cfa) (e : Elem) (g : Edge) where
  -- the step to the first of the stores
  pub first_step : (xs : List Store) → 1 ≤ length xs → AllByRecursion (IsAfter cfa e g) xs
      → (old new : List ℤ) × StepsFrom cfa e g old new
  first_step [] less all = absurd (omega (arith, less))
  first_step (x ∷ xs) less all = (all.0.0, x.values, all.0.1)

  -- a truth that one of the stores lacks is not that of all
  pub lacking_refutes : (p : Expr) (holds : Bool) (xs : List Store)
      → AllByRecursion (IsAfter cfa e g) xs → SomeLacks p holds xs → HasAfter cfa e g p holds → ⊥
  lacking_refutes p holds [] all some has = some
  lacking_refutes p holds (x ∷ xs) all (inl lacks) has = lacks (has all.0.0 x.values all.0.1)
  lacking_refutes p holds (x ∷ xs) all (inr some) has =
      lacking_refutes p holds xs all.1 some has
