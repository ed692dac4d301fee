-- Covered successors: what a reached set keeps from turn to turn (CAV 2007, section 2; the entries
-- that cover the successors are named, which is this project's own).
use Rattle.std.specs.Prelude.{◌≡◌, ℕ, false, List, None}
use Rattle.cpa_model.specs.declared.automaton.Cfa.{Cfa}
use Rattle.cpa_model.specs.declared.facts.Elem.{Elem}
use Rattle.cpa_model.specs.declared.states.State.{State}
use Rattle.cpa_model.specs.Facts.{LiesIn}
use Rattle.cpa_model.specs.Automata.{IsStateOf, initial_state, EdgeStep}
use Rattle.cpa_iface.specs.declared.entries.Entry.{Entry}
use Rattle.cpa_reached.specs.Members.{IsIn}

-- the state lies in an entry that the numbers name
pub record LiesInNamed (t : State) (names : List ℕ) (xs : List Entry) : Type 0 where
  pub entry : Entry
  pub is_in : IsIn entry xs
  pub named : IsIn entry.number names
  pub lies : LiesIn t entry.elems

-- the initial state lies in an entry without parent
pub record HasStart (cfa : Cfa) (xs : List Entry) : Type 0 where
  pub entry : Entry
  pub is_in : IsIn entry xs
  pub root : entry.parent ≡ None
  pub lies : LiesIn (initial_state cfa) entry.elems

-- Each successor of a state of an entry that does not wait lies in an entry that it uses. The
-- initial state lies in one without parent, which no removal takes away.
pub record CoversSuccessors (cfa : Cfa) (xs : List Entry) : Type 0 where
  pub start : HasStart cfa xs
  pub successors : (e : Entry) (s t : State) → IsIn e xs → e.waiting ≡ false → LiesIn s e.elems
      → EdgeStep cfa s t
      → LiesInNamed t e.uses xs

-- the elements hold of every state of the automaton that lies in an entry of this number
abbrev pub HoldOfAll : Cfa → List Entry → ℕ → List Elem → Type 0
HoldOfAll cfa xs n es = (e : Entry) (s : State) → IsIn e xs → e.number ≡ n → IsStateOf cfa s
    → LiesIn s e.elems → LiesIn s es
