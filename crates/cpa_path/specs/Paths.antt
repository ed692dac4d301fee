-- Paths of an automaton: the runs along them (CAV 2007, section 2), how their edges chain, and what
-- is asked of a solver about them (this project's own).
use Rattle.std.specs.Prelude.{◌≡◌, ℕ, ◌^◌, ◌-◌, min, ℤ, ⊤, Bool, true, false, List, [], ◌∷◌, map}
use Rattle.std.specs.Prelude.{Some, slice_get}
use Rattle.std.specs.List.{Contains, list_any, sum_by}
use Rattle.cpa_model.specs.declared.automaton.Act.{Act}
use Rattle.cpa_model.specs.declared.automaton.Act.TheVariants as act
use Rattle.cpa_model.specs.declared.automaton.Edge.{Edge}
use Rattle.cpa_model.specs.declared.automaton.Cfa.{Cfa}
use Rattle.cpa_model.specs.declared.program.Program.{Program}
use Rattle.cpa_model.specs.declared.states.State.{State}
use Rattle.cpa_model.specs.Automata.{StepsAlong, initial_state}
use Rattle.cpa_model.specs.Steps.{StepsStack}
use Rattle.cpa_interp.specs.declared.outcome.Outcome.TheVariants as outcome
use Rattle.cpa_interp.specs.Replays.{Replay, last_of}
use Rattle.cpa_form_rules.specs.Runs.{Added, taken, Runs}
use Rattle.cpa_form_rules.specs.Forms.{Form, form_of, act_weight}
use Rattle.cpa_folds.specs.Along.{acts_along}

-- ---- runs

-- from a state these edges are taken, one after the other, to these states
abbrev pub TakesEdges : Cfa → List ℕ → State → List State → Type 0
TakesEdges cfa [] s [] = ⊤
TakesEdges cfa [] s (t ∷ ts) = ⊥
TakesEdges cfa (n ∷ ns) s [] = ⊥
TakesEdges cfa (n ∷ ns) s (t ∷ ts) =
    (g : Edge) × (slice_get cfa.edges n ≡ Some g) × StepsAlong cfa g s t × TakesEdges cfa ns t ts

-- A run along the path: from the initial state exactly its edges are taken, to these states, and
-- the last one stands at a call of reach_error.
pub record IsRunAlong (cfa : Cfa) (path : List ℕ) (states : List State) : Type 0 where
  pub takes : TakesEdges cfa path (initial_state cfa) states
  pub error : Contains cfa.errors (last_of (initial_state cfa) states).point

abbrev pub HasNoRun : Cfa → List ℕ → Type 0
HasNoRun cfa path = (states : List State) → IsRunAlong cfa path states → ⊥

-- The replay of the inputs within so many steps calls the error after as many, and takes all of
-- them.
pub record ReplaysTo (P : Program) (inputs : List ℤ) (steps : ℕ) : Type 0 where
  pub replay : Replay P inputs steps (outcome.Error steps)
  pub all : replay.at.left ≡ []

-- and goes along the path
pub record ReplaysAlong (P : Program) (cfa : Cfa) (path : List ℕ) (inputs : List ℤ)
    (steps : ℕ) : Type 0 where
  pub replays : ReplaysTo P inputs steps
  pub along : IsRunAlong cfa path replays.replay.arrives.states

-- ---- how edges chain

-- from this point and with these call sites on the stack, each edge leaves the point to which the
-- one before leads, each return goes back to the call on top, and the last edge leads to a call of
-- reach_error
abbrev pub ChainsFrom : Cfa → ℕ → List ℕ → List ℕ → Type 0
ChainsFrom cfa p calls [] = Contains cfa.errors p
ChainsFrom cfa p calls (n ∷ ns) =
    (g : Edge) × (next : List ℕ) × (slice_get cfa.edges n ≡ Some g) × (g.from ≡ p)
    × StepsStack g.act calls next × ChainsFrom cfa g.to next ns

-- the points and the call sites of the path chain from the start to a call of reach_error
abbrev pub Chains : Cfa → List ℕ → Type 0
Chains cfa path = ChainsFrom cfa cfa.start [] path

-- ---- acts

abbrev pub is_input : Act → Bool
is_input (act.Input cell) = true
is_input _ = false

-- some edge of the path is an input
abbrev pub has_input : Cfa → List ℕ → Bool
has_input cfa path = list_any is_input (acts_along cfa path)

-- the sum of the weights of the path's edges, or the greatest number of 64 bits
abbrev pub path_weight : Cfa → List ℕ → ℕ
path_weight cfa path = min (sum_by act_weight (acts_along cfa path)) (2 ^ 64 - 1)

-- what a form of the path takes
abbrev pub added_along : Cfa → List ℕ → List Added
added_along cfa path = map taken (acts_along cfa path)

-- the form of the path from the initial store on, whose query has the runs of stores along it
abbrev pub path_form : Cfa → List ℕ → Form
path_form cfa path = form_of cfa.cells true (added_along cfa path)

-- The stores of a run along the path: they lead from the start of each cell to these values, and
-- take these inputs.
abbrev pub HasStores : Cfa → List ℕ → List ℤ → List ℤ → Type 0
HasStores cfa path inputs last =
    Runs cfa.cells (added_along cfa path) (map (λ cell. cell.start) cfa.cells) inputs last
