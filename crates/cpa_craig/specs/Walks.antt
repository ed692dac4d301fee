-- What transfers give along a path, edge after edge (the transfer relation of CAV 2007, section 2,
-- for predicates; the walk is this project's own).
use Rattle.std.specs.Prelude.{◌≡◌, ℕ, IsTrue, List, [], ◌∷◌, ◌++◌, Some, slice_get}
use Rattle.std.specs.List.{Contains}
use Rattle.cpa_expr.specs.declared.tree.Expr.{Expr}
use Rattle.cpa_model.specs.declared.facts.Elem.{Elem}
use Rattle.cpa_model.specs.declared.automaton.Edge.{Edge}
use Rattle.cpa_model.specs.declared.automaton.Cfa.{Cfa}
use Rattle.cpa_folds.specs.Carried.{reads_some}
use Rattle.cpa_predicate.specs.declared.asking.Budgets.{Budgets}
use Rattle.cpa_predicate.specs.Questions.{Question, SomeBeyond}
use Rattle.cpa_predicate.specs.Transfer.{IsCartesian, NoneOpen}

module _ (Open : Elem → Edge → Question → Type 0) (cfa : Cfa) (preds : List Expr) where
  -- behind the edge, what a transfer gives of each of the elements, one behind the other
  abbrev pub AreBehind : Edge → List Elem → List Elem → Type 0
  AreBehind g [] behind = behind ≡ []
  AreBehind g (e ∷ es) behind =
      (own others : List Elem) × IsCartesian (Open e g) cfa e g preds own
      × (behind ≡ own ++ others) × AreBehind g es others

  -- behind the edges of these numbers, one after the other
  abbrev pub Walks : List ℕ → List Elem → List Elem → Type 0
  Walks [] es last = last ≡ es
  Walks (n ∷ ns) es last =
      (g : Edge) × (next : List Elem) × (slice_get cfa.edges n ≡ Some g) × AreBehind g es next
      × Walks ns next last

-- at no edge a question stays open
abbrev pub NeverOpen : Elem → Edge → Question → Type 0
NeverOpen e g = NoneOpen

-- the budgets do not do for some question of a step along the edge of this number
abbrev pub SomeBeyondAt : Budgets → Cfa → List Expr → ℕ → Type 0
SomeBeyondAt b cfa preds n =
    (e : Elem) × (g : Edge) × (slice_get cfa.edges n ≡ Some g) × SomeBeyond b cfa e g preds

-- or along some edge of the list
abbrev pub SomeBeyondAlong : Budgets → Cfa → List Expr → List ℕ → Type 0
SomeBeyondAlong b cfa preds ns = (n : ℕ) × Contains ns n × SomeBeyondAt b cfa preds n

-- the expression is a predicate, if it reads a cell
abbrev pub IsPredIfRead : List Expr → Expr → Type 0
IsPredIfRead preds e = IsTrue (reads_some e) → Contains preds e
