-- When an obligation is met, and which states break it (of a cover: CAV 2007, section 2).
use Rattle.std.specs.Prelude.{◌≡◌, ℕ, List, Option, None, Some, slice_get}
use Rattle.std.specs.List.{Contains}
use Rattle.cpa_model.specs.declared.facts.Elem.{Elem}
use Rattle.cpa_model.specs.declared.states.State.{State}
use Rattle.cpa_model.specs.declared.automaton.Edge.{Edge}
use Rattle.cpa_model.specs.declared.automaton.Cfa.{Cfa}
use Rattle.cpa_model.specs.Automata.{IsStateOf, StepsAlong, initial_state}
use Rattle.cpa_model.specs.Covers.{LiesInSome}
use Rattle.cpa_model.specs.Facts.{LiesIn}
use Rattle.cpa_recheck_obligations.specs.declared.listing.Obligation.{Obligation}
use Rattle.cpa_recheck_obligations.specs.declared.listing.Obligation.TheVariants.{Begins, Leads}
use Rattle.cpa_recheck_obligations.specs.declared.listing.Obligation.TheVariants.{Avoids}

-- The initial state lies in an entry; each successor by the edge of a state of the entry lies in an
-- entry; the entry holds no state at the error point.
abbrev pub IsMet : Cfa → List (List Elem) → Obligation → Type 0
IsMet cfa entries Begins = LiesInSome (initial_state cfa) entries
IsMet cfa entries (Leads x g) =
    (entry : List Elem) (edge : Edge) (s t : State) → slice_get entries x ≡ Some entry
    → slice_get cfa.edges g ≡ Some edge → LiesIn s entry → StepsAlong cfa edge s t
    → LiesInSome t entries
IsMet cfa entries (Avoids x p) =
    (entry : List Elem) (s : State) → slice_get entries x ≡ Some entry → IsStateOf cfa s
    → s.point ≡ p → LiesIn s entry → ⊥

-- a state of the entry with a successor by the edge that lies in no entry
pub record LeadsOut (cfa : Cfa) (entries : List (List Elem)) (x g : ℕ)
    (s t : State) : Type 0 where
  pub entry : List Elem
  pub edge : Edge
  pub entry_is : slice_get entries x ≡ Some entry
  pub edge_is : slice_get cfa.edges g ≡ Some edge
  pub lies : LiesIn s entry
  pub steps : StepsAlong cfa edge s t
  pub outside : LiesInSome t entries → ⊥

-- a state of the entry at the point, which is one of the errors
pub record Reaches (cfa : Cfa) (entries : List (List Elem)) (x p : ℕ) (s : State) : Type 0 where
  pub entry : List Elem
  pub entry_is : slice_get entries x ≡ Some entry
  pub lies : LiesIn s entry
  pub state : IsStateOf cfa s
  pub point : s.point ≡ p
  pub error : Contains cfa.errors p

-- The state breaks the obligation, with its successor for an edge: it is the state that the
-- obligation says is not there.
abbrev pub Breaks : Cfa → List (List Elem) → Obligation → State → Option State → Type 0
Breaks cfa entries Begins s None = (s ≡ initial_state cfa) × (LiesInSome s entries → ⊥)
Breaks cfa entries (Leads x g) s (Some t) = LeadsOut cfa entries x g s t
Breaks cfa entries (Avoids x p) s None = Reaches cfa entries x p s
Breaks cfa entries _ s _ = ⊥
