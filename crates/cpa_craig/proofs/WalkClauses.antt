-- From what a walk from some elements gives to what a walk from the initial one does.
use Rattle.std.proofs.Common.{◌≡◌, ℕ, ◌<◌, ◌-◌, ◌^◌, List, [], ◌∷◌, ◌++◌, Result, sym, ap, ◌∙◌}
use Rattle.std.proofs.Common.{subst}
use Rattle.std.specs.Prelude.{IfOk}
use Rattle.std.specs.List.{AllByRecursion}
use Rattle.std.specs.declared.alloc.Global.{Global}
use Rattle.std.specs.declared.vec.Vec.{Vec}
use Rattle.std.proofs.lemmas.Result.{IfOk-weaker}
use Rattle.cpa_expr.specs.declared.tree.Expr.{Expr}
use Rattle.cpa_model.specs.declared.facts.Elem.{Elem}
use Rattle.cpa_model.specs.declared.automaton.Cfa.{Cfa}
use Rattle.cpa_folds.specs.Along.{acts_along}
use Rattle.cpa_predicate.specs.declared.asking.Budgets.{Budgets}
use Rattle.cpa_predicate.specs.Predicates.{no_facts}
use Rattle.cpa_predicate.specs.Questions.{IsOpen, Spends}
use Rattle.cpa_predicate.specs.lemmas.Spending.{nothing_spent}
use Rattle.cpa_interpolant_rules.specs.Interpolants.{ArePathInterpolants}
use Rattle.cpa_interpolant.specs.Keeping.{AreLaws}
use Rattle.cpa_craig.specs.Walks.{Walks, NeverOpen, IsPredIfRead, SomeBeyondAlong}
use Rattle.cpa_craig.proofs.WalkLemmas.{walks_exactly}
use Rattle.cpa_craig.proofs.Progress.{walk_gives_none}

-- a list of the initial element alone
pub first_one : (none first : List Elem) (e : Elem) → none ≡ [] → e ≡ no_facts
    → first ≡ none ++ e ∷ [] → first ≡ no_facts ∷ []
first_one none first e empty is pushed =
    pushed ∙ ap (λ (l : List Elem). l ++ e ∷ []) empty ∙ ap (λ (x : Elem). x ∷ []) is

pub still_spent : (a b : Budgets) (C : Type 0) → b ≡ a → Spends a b C
still_spent a b C same = subst (λ (x : Budgets). Spends a x C) (sym same) (nothing_spent a C)

module _ {E : Type 0} (a b c : Budgets) (same : b ≡ a) (cfa : Cfa) (preds : List Expr)
    (ns edges : List ℕ) (are : ns ≡ edges) (first : List Elem) (one : first ≡ no_facts ∷ [])
    (r : Result (Vec Elem Global) E) where
  pub walk-known : IfOk r (λ es. Walks (IsOpen b c cfa) cfa preds ns first es.items)
      → IfOk r (λ es. Walks (IsOpen a c cfa) cfa preds edges (no_facts ∷ []) es.items)
  walk-known =
      IfOk-weaker r _ _ (λ (es : Vec Elem Global) known.
      subst (λ (x : Budgets). Walks (IsOpen x c cfa) cfa preds edges (no_facts ∷ []) es.items) same
      (subst (λ (l : List Elem). Walks (IsOpen b c cfa) cfa preds edges l es.items) one
      (subst (λ (l : List ℕ). Walks (IsOpen b c cfa) cfa preds l first es.items) are known)))

  pub walk-exact : IfOk r (λ es. Walks (IsOpen b c cfa) cfa preds ns first es.items)
      → IfOk r (λ es. c.spent ≡ a.spent → c.spent < 2 ^ 64 - 1
      → Walks NeverOpen cfa preds edges (no_facts ∷ []) es.items)
  walk-exact walked =
      IfOk-weaker r _ _ (λ (es : Vec Elem Global) known still below.
      walks_exactly a c cfa preds edges (no_facts ∷ []) es.items still below known)
      (walk-known walked)

  pub walk-progress : AreLaws cfa
      → IfOk r (λ es. Walks (IsOpen b c cfa) cfa preds ns first es.items)
      → IfOk r (λ es. (exprs : List Expr)
      → ArePathInterpolants cfa.cells (acts_along cfa edges) exprs
      → AllByRecursion (IsPredIfRead preds) exprs → c.spent ≡ a.spent → c.spent < 2 ^ 64 - 1
      → es.items ≡ [])
  walk-progress laws walked =
      IfOk-weaker r _ _ (λ (es : Vec Elem Global) exact exprs interpolants typed still below.
      walk_gives_none cfa laws preds edges es.items exprs interpolants typed (exact still below))
      (walk-exact walked)

  pub walk-spends : Spends b c (SomeBeyondAlong b cfa preds ns)
      → Spends a c (SomeBeyondAlong a cfa preds edges)
  walk-spends spends =
      subst (λ (x : Budgets). Spends x c (SomeBeyondAlong x cfa preds edges)) same
      (subst (λ (l : List ℕ). Spends b c (SomeBeyondAlong b cfa preds l)) are spends)
