-- The stores to which an edge leads from those on which the predicates of an element have their
-- truths (the store's part of a step: CAV 2007, section 2; predicates: CAV 1997).
use Rattle.std.specs.Prelude.{ℤ, ◌⊎◌, Bool, true, false, List, [], ◌∷◌}
use Rattle.std.specs.List.{filter}
use Rattle.cpa_expr.specs.declared.tree.Expr.{Expr}
use Rattle.cpa_expr.specs.declared.tree.Store.{Store}
use Rattle.cpa_expr.specs.Cells.{AreValues}
use Rattle.cpa_expr.specs.Values.{HasTruth}
use Rattle.cpa_facts.specs.declared.fact.Fact.{Fact}
use Rattle.cpa_facts.specs.declared.fact.Fact.TheVariants.{Truth}
use Rattle.cpa_model.specs.declared.facts.Elem.{Elem}
use Rattle.cpa_model.specs.declared.automaton.Edge.{Edge}
use Rattle.cpa_model.specs.declared.automaton.Cfa.{Cfa}
use Rattle.cpa_model.specs.Expressions.{types_of}
use Rattle.cpa_model.specs.Steps.{StepsStore}
use Rattle.cpa_form_rules.specs.Runs.{StoreHolds}

-- the fact is on the truth of a predicate
abbrev pub is_truth : Fact → Bool
is_truth (Truth expr holds) = true
is_truth fact = false

-- these facts of an element
abbrev pub truths : Elem → Elem
truths e = record { facts = filter is_truth e.facts }

-- a store on which the predicates of the element have their truths, from which the edge leads to
-- the other store
pub record StepsFrom (cfa : Cfa) (e : Elem) (g : Edge) (old new : List ℤ) : Type 0 where
  pub values : AreValues (types_of cfa.cells) old
  pub truths : StoreHolds old (truths e)
  pub step : StepsStore cfa.cells g.act old new

-- the edge leads nowhere from such a store
abbrev pub NeverSteps : Cfa → Elem → Edge → Type 0
NeverSteps cfa e g = (old new : List ℤ) → StepsFrom cfa e g old new → ⊥

-- the edge leads from such a store to none on which the expression has not this truth
abbrev pub HasAfter : Cfa → Elem → Edge → Expr → Bool → Type 0
HasAfter cfa e g p holds =
    (old new : List ℤ) → StepsFrom cfa e g old new → HasTruth new p holds

-- the edge leads to the store from one on which the predicates of the element have their truths
abbrev pub IsAfter : Cfa → Elem → Edge → Store → Type 0
IsAfter cfa e g store = (old : List ℤ) × StepsFrom cfa e g old store.values

-- on one of the stores the expression has not this truth
abbrev pub SomeLacks : Expr → Bool → List Store → Type 0
SomeLacks p holds [] = ⊥
SomeLacks p holds (store ∷ stores) =
    (HasTruth store.values p holds → ⊥) ⊎ SomeLacks p holds stores
