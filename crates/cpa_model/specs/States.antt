-- The states of a program (the concrete states of CAV 2007, section 2, with a stack of call sites).
use Rattle.std.specs.Prelude.{ℕ, ◌<◌, ℤ, List, [], map, slice_index}
use Rattle.std.specs.List.{AllByRecursion}
use Rattle.cpa_model.specs.declared.program.Cell.{Cell}
use Rattle.cpa_model.specs.declared.program.Program.{Program}
use Rattle.cpa_model.specs.declared.states.State.{State}
use Rattle.cpa_expr.specs.Cells.{AreValues}
use Rattle.cpa_model.specs.Expressions.{types_of}

-- a state over these cells and this many points: the point and each site of the stack are points
pub record IsState (cells : List Cell) (points : ℕ) (s : State) : Type 0 where
  pub point : s.point < points
  pub stack : AllByRecursion (λ site. site < points) s.stack
  pub store : AreValues (types_of cells) s.store.values

-- the state with this point, this stack and these values
abbrev pub state_at : ℕ → List ℕ → List ℤ → State
state_at point stack values =
    record { point = point; stack = stack; store = record { values = values } }

-- an empty stack, and each cell at its start
abbrev pub initial_at : List Cell → ℕ → State
initial_at cells point = state_at point [] (map (λ cell. cell.start) cells)

-- the initial state stands at main's body
abbrev pub initial_of : Program → State
initial_of P = initial_at P.cells (slice_index P.bodies P.main)
