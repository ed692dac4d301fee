-- The replay of inputs: the one execution whose inputs are these numbers, in order, and what comes
-- of it (executions of the abstract machine, C11 5.1.2.3; the outcomes and their order are this
-- project's own).
use Rattle.std.specs.Prelude.{◌≡◌, ℕ, ◌<◌, ◌≤◌, ℤ, pos, List, [], ◌∷◌, ◌++◌, Option, Some}
use Rattle.std.specs.Prelude.{length, slice_get, slice_index_or, IsSomeAnd}
use Rattle.cpa_ints.specs.Integers.{IsInRange}
use Rattle.cpa_model.specs.declared.program.Stmt.{Stmt}
use Rattle.cpa_model.specs.declared.program.Stmt.TheVariants as stmt
use Rattle.cpa_model.specs.declared.program.Program.{Program}
use Rattle.cpa_model.specs.declared.states.State.{State}
use Rattle.cpa_model.specs.Programs.{IsStmt}
use Rattle.cpa_model.specs.States.{initial_of}
use Rattle.cpa_model.specs.Steps.{Step, IsExecution, IsError, IsEnd, GoesOn}
use Rattle.cpa_interp.specs.declared.outcome.Outcome.{Outcome}
use Rattle.cpa_interp.specs.declared.outcome.Outcome.TheVariants as outcome

-- the input that a statement takes where it leaves these values: the value that its cell then has
abbrev pub input_left : Option Stmt → List ℤ → List ℤ
input_left (Some (stmt.Input cell)) values = slice_index_or values cell (pos 0) ∷ []
input_left _ values = []

-- the input that the step from s to t takes, if it takes one
abbrev pub input_of : Program → State → State → List ℤ
input_of P s t = input_left (slice_get P.stmts s.point) t.store.values

-- the inputs that an execution takes which goes on from s through these states, in order
abbrev pub inputs_of : Program → State → List State → List ℤ
inputs_of P s [] = []
inputs_of P s (t ∷ states) = input_of P s t ++ inputs_of P t states

-- the last state of an execution that goes on from s through these states
abbrev pub last_of : State → List State → State
last_of s [] = s
last_of s (t ∷ states) = last_of t states

-- the number is a value of the cell's type
abbrev pub IsInputFor : Program → ℕ → ℤ → Type 0
IsInputFor P cell n = IsSomeAnd (slice_get P.cells cell) (λ c. IsInRange c.ty n)

-- Where a replay stands: after so many steps, in this state; these inputs are taken, in order, and
-- these are left.
pub record Stage : Type 0 where
  pub steps : ℕ
  pub state : State
  pub taken : List ℤ
  pub left : List ℤ

-- an execution from the initial state that takes the inputs in order comes to this stage
pub record Arrives (P : Program) (inputs : List ℤ) (stage : Stage) : Type 0 where
  pub states : List State
  pub execution : IsExecution P (initial_of P ∷ states)
  pub steps : stage.steps ≡ length states
  pub state : stage.state ≡ last_of (initial_of P) states
  pub taken : stage.taken ≡ inputs_of P (initial_of P) states
  pub in_order : inputs ≡ stage.taken ++ stage.left

-- At the stage no step can be made that takes the next input, and the outcome says why: no input is
-- left, the next one is no value of the cell's type, or no step leads on at all.
abbrev pub IsHeld : Program → Stage → Outcome → Type 0
IsHeld P at (outcome.InputsShort p) =
    (p ≡ at.state.point) × (cell : ℕ) × IsStmt P p (stmt.Input cell) × (at.left ≡ [])
IsHeld P at (outcome.BadInput place) =
    (place ≡ length at.taken) × (cell : ℕ) × IsStmt P at.state.point (stmt.Input cell)
    × (next : ℤ) × (rest : List ℤ) × (at.left ≡ next ∷ rest) × (IsInputFor P cell next → ⊥)
IsHeld P at (outcome.Trapped p) = (p ≡ at.state.point) × ((t : State) → Step P at.state t → ⊥)
IsHeld P at _ = ⊥

-- What comes of a replay that stands at this stage and makes at most so many steps. The error and
-- the end come before all else, then the budget.
abbrev pub ComesTo : Program → ℕ → Stage → Outcome → Type 0
ComesTo P budget at (outcome.Error steps) = IsError P at.state.point × (steps ≡ at.steps)
ComesTo P budget at outcome.Ended = IsEnd P at.state.point
ComesTo P budget at outcome.StepsSpent = GoesOn P at.state.point × (at.steps ≡ budget)
ComesTo P budget at held = GoesOn P at.state.point × (at.steps < budget) × IsHeld P at held

-- the outcome of the one execution whose inputs are these, in order, within so many steps
pub record Replay (P : Program) (inputs : List ℤ) (budget : ℕ) (result : Outcome) : Type 0 where
  pub at : Stage
  pub arrives : Arrives P inputs at
  pub within : at.steps ≤ budget
  pub comes : ComesTo P budget at result
