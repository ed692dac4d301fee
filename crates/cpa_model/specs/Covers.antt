-- Covers: lists of entries in which every reachable state lies, and none at a call of reach_error
-- (CAV 2007, section 2: soundness of a reached set).
use Rattle.std.specs.Prelude.{List, [], ◌∷◌, ◌⊎◌}
use Rattle.std.specs.List.{Contains}
use Rattle.cpa_model.specs.declared.facts.Elem.{Elem}
use Rattle.cpa_model.specs.declared.states.State.{State}
use Rattle.cpa_model.specs.declared.automaton.Cfa.{Cfa}
use Rattle.cpa_model.specs.declared.program.Program.{Program}
use Rattle.cpa_model.specs.Programs.{point_count}
use Rattle.cpa_model.specs.States.{IsState, initial_of}
use Rattle.cpa_model.specs.Steps.{Step, IsExecution, IsReachable, IsError, CallsError}
use Rattle.cpa_model.specs.Facts.{LiesIn}
use Rattle.cpa_model.specs.Automata.{IsStateOf, initial_state, EdgeStep}

-- the state lies in some entry
abbrev pub LiesInSome : State → List (List Elem) → Type 0
LiesInSome s [] = ⊥
LiesInSome s (entry ∷ entries) = LiesIn s entry ⊎ LiesInSome s entries

-- A cover of a program: the initial state lies in an entry, each successor of a state of an entry
-- lies in an entry, and no entry holds a state at a call of reach_error.
pub record IsCover (P : Program) (entries : List (List Elem)) : Type 0 where
  pub initial : LiesInSome (initial_of P) entries
  pub successors : (s t : State) → LiesInSome s entries → Step P s t → LiesInSome t entries
  pub safe : (s : State) → IsState P.cells (point_count P) s → LiesInSome s entries
      → IsError P s.point → ⊥

-- A cover of an automaton: the same of its initial state, the steps along its edges and its error
-- points.
pub record CoversAutomaton (cfa : Cfa) (entries : List (List Elem)) : Type 0 where
  pub initial : LiesInSome (initial_state cfa) entries
  pub successors : (s t : State) → LiesInSome s entries → EdgeStep cfa s t → LiesInSome t entries
  pub safe : (s : State) → IsStateOf cfa s → LiesInSome s entries → Contains cfa.errors s.point → ⊥

-- Every reachable state lies in an entry, and no execution, whatever its length and inputs, calls
-- reach_error.
pub record IsSafe (P : Program) (entries : List (List Elem)) : Type 0 where
  pub reachable : (s : State) → IsReachable P s → LiesInSome s entries
  pub never : (states : List State) → IsExecution P states → CallsError P states → ⊥
