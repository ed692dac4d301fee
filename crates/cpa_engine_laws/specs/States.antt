-- The reachable states of a program, and programs without inputs (C11 5.1.2.3, 6.5.2.2).
use Rattle.std.specs.Prelude.{ℕ, ◌↔◌, List}
use Rattle.cpa_model.specs.declared.program.Program.{Program}
use Rattle.cpa_model.specs.declared.program.Stmt.TheVariants as stmt
use Rattle.cpa_model.specs.declared.states.State.{State}
use Rattle.cpa_model.specs.Programs.{IsStmt}
use Rattle.cpa_model.specs.Steps.{IsReachable}
use Rattle.cpa_reached.specs.Members.{IsIn}

-- these are exactly the reachable states
abbrev pub AreReachable : Program → List State → Type 0
AreReachable P states = (s : State) → IsReachable P s ↔ IsIn s states

-- no statement is an input
abbrev pub HasNoInput : Program → Type 0
HasNoInput P = (n cell : ℕ) → IsStmt P n (stmt.Input cell) → ⊥
