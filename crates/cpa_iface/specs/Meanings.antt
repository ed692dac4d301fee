-- What an analysis means, whatever state its object is in (CAV 2007, section 2; ASE 2008; height,
-- rank, suggestion and replies are this project's own).
use Rattle.std.specs.Prelude.{ℕ, ◌<◌, List, length, Option, IsTrue, Bool}
use Rattle.std.specs.List.{AllByRecursion}
use Rattle.cpa_expr.specs.declared.tree.Expr.{Expr}
use Rattle.cpa_model.specs.declared.facts.Elem.{Elem}
use Rattle.cpa_model.specs.declared.states.State.{State}
use Rattle.cpa_model.specs.declared.automaton.Cfa.{Cfa}
use Rattle.cpa_model.specs.declared.automaton.Path.{Path}
use Rattle.cpa_model.specs.declared.automaton.Edge.{Edge}
use Rattle.cpa_model.specs.Expressions.{IsExpr}
use Rattle.cpa_model.specs.Facts.{Holds, IsElem, IsWithin}
use Rattle.cpa_model.specs.Automata.{IsStateOf}
use Rattle.cpa_iface.specs.declared.analysis.Part.{Part}
use Rattle.cpa_iface.specs.declared.analysis.Settings.{Settings}
use Rattle.cpa_iface.specs.declared.merging.MergeRule.{MergeRule}
use Rattle.cpa_iface.specs.declared.precisions.Precision.{Precision}
use Rattle.cpa_iface.specs.declared.entries.Entry.{Entry}

-- every state of the automaton that is one of e is one of f
abbrev pub IsWithinOn : Cfa → Elem → Elem → Type 0
IsWithinOn cfa e f = (s : State) → IsStateOf cfa s → Holds e s → Holds f s

-- What an analysis would have a precision keep after a path that has no run.
pub record Suggestion : Type 0 where
  pub cells : List ℕ
  pub preds : List Expr

-- What an analysis answers, whatever state its object is in, at each call of which the laws leave
-- the answer open.
pub record Replies : Type 0 where
  pub initial : Cfa → Elem
  pub first_precision : Cfa → Settings → Precision
  pub transfer : Cfa → Edge → Elem → Precision → List Elem
  pub strengthen : Cfa → Elem → List Elem → Precision → Option Elem
  pub merge : Cfa → MergeRule → Elem → Elem → Precision → Elem
  pub adjust : Cfa → Elem → Precision → List Entry → ℕ → Elem × Precision
  pub refine : Cfa → Path → Precision → Precision

-- The seven meanings of an analysis. Its cover is what `covered_by` answers; its suggestion and its
-- replies are there where it tells them. The cover law: a true cover is inclusion, and each element
-- covers itself.
pub record Meaning : Type 0 where
  pub name : List ℕ
  pub part : Part
  pub cover : Elem → Elem → Bool
  pub height : Cfa → Precision → ℕ
  pub rank : Cfa → Elem → ℕ
  pub suggestion : Cfa → Path → Option Suggestion
  pub replies : Option Replies
  pub within : (e f : Elem) → IsTrue (cover e f) → IsWithin e f
  pub same : (e : Elem) → IsTrue (cover e e)

-- shaped for the automaton
abbrev pub IsShaped : Cfa → Elem → Type 0
IsShaped cfa e = IsElem cfa.cells cfa.points e

abbrev pub AreShaped : Cfa → List Elem → Type 0
AreShaped cfa es = AllByRecursion (IsShaped cfa) es

-- cells in range, and predicates that are well typed
pub record IsPrecision (cfa : Cfa) (p : Precision) : Type 0 where
  pub tracked : AllByRecursion (λ cell. cell < length cfa.cells) p.tracked
  pub preds : AllByRecursion (IsExpr cfa.cells) p.preds

-- the edges of the path are edges of the automaton
abbrev pub IsPathOf : Cfa → Path → Type 0
IsPathOf cfa path = AllByRecursion (λ edge. edge < length cfa.edges) path.edges

-- the entry has a shaped element and a precision at this place
pub record HasPlace (cfa : Cfa) (place : ℕ) (entry : Entry) : Type 0 where
  pub shaped : AreShaped cfa entry.elems
  pub precisions : AllByRecursion (IsPrecision cfa) entry.precisions
  pub elem : place < length entry.elems
  pub precision : place < length entry.precisions
