-- What the checks tell. Each record is the contract of a law of src/laws.rt; below it stands its
-- proof, which a lemma of another crate cites.
use Rattle.std.specs.Prelude.{◌≡◌, ◌↔◌, ◌⊎◌, ℕ, ◌<◌, ◌≤◌, ◌^◌, ℤ, List, length, None, IsSome}
use Rattle.std.specs.Prelude.{IsSomeAnd}
use Rattle.cpa_ints.specs.declared.integers.IntType.{IntType}
use Rattle.cpa_expr.specs.declared.tree.Expr.{Expr}
use Rattle.cpa_expr.specs.Shape.{IsTyped}
use Rattle.cpa_expr.specs.Values.{value_of}
use Rattle.cpa_expr.specs.Traps.{IsOutside, Traps}
use Rattle.cpa_expr.specs.Cells.{AreValues}
use Rattle.cpa_trap_checks.specs.Nodes.{can_trap_here, can_wrap_here, NoNode}
use Rattle.cpa_trap_checks.specs.Wraps.{Wraps}
use Rattle.cpa_trap_checks.specs.Checks.{trap_check, over_check, write_trap, write_over}
use Rattle.cpa_trap_checks.specs.Tells.{Tells, IsCheck}
use Rattle.cpa_trap_checks.specs.lemmas.TrapValues.{trap_tells}
use Rattle.cpa_trap_checks.specs.lemmas.OverValues.{over_tells}
use Rattle.cpa_trap_checks.specs.lemmas.Typing.{trap_typed, over_typed}
use Rattle.cpa_trap_checks.specs.lemmas.Standing.{no_trap_check, no_over_check}
use Rattle.cpa_trap_checks.specs.lemmas.Writes.{write_trap_tells, write_over_tells}
use Rattle.cpa_trap_checks.specs.lemmas.Writes.{write_trap_typed, write_over_typed}

-- On each store of its cells the check of a well-typed expression never traps. It is 1 exactly
-- where the expression traps, or overflows, and else 0. It is well typed and of type int, where
-- there are fewer than 2^31 cells.
pub record ChecksTell : Type 0 where
  pub trap : (cells : List IntType) (e : Expr) (values : List ℤ) → IsTyped cells e
      → AreValues cells values → Tells values (trap_check e) (Traps values e)
  pub over : (cells : List IntType) (e : Expr) (values : List ℤ) → IsTyped cells e
      → AreValues cells values → Tells values (over_check e) (Wraps values e)
  pub trap_typed : (cells : List IntType) (e : Expr) → length cells < 2 ^ 31 → IsTyped cells e
      → IsCheck cells (trap_check e)
  pub over_typed : (cells : List IntType) (e : Expr) → length cells < 2 ^ 31 → IsTyped cells e
      → IsCheck cells (over_check e)

pub checks_tell : ChecksTell
checks_tell = record {
  trap = trap_tells;
  over = over_tells;
  trap_typed = trap_typed;
  over_typed = over_typed;
}

-- The same of a write of a value into one of len elements, which the index names: it traps where
-- the index or the value does, or where the index names no element; it overflows where the index
-- does, or, where the index has a value, the value.
pub record WriteChecksTell : Type 0 where
  pub trap : (cells : List IntType) (len : ℕ) (index value : Expr) (values : List ℤ)
      → 1 ≤ len → IsTyped cells index → IsTyped cells value → AreValues cells values
      → Tells values (write_trap len index value)
      ((Traps values index ⊎ IsSomeAnd (value_of index values) (IsOutside len))
      ⊎ Traps values value)
  pub over : (cells : List IntType) (index value : Expr) (values : List ℤ)
      → IsTyped cells index → IsTyped cells value → AreValues cells values
      → Tells values (write_over index value)
      (Wraps values index ⊎ (IsSome (value_of index values) × Wraps values value))
  pub trap_typed : (cells : List IntType) (len : ℕ) (index value : Expr)
      → length cells < 2 ^ 31 → 1 ≤ len → len ≤ length cells → IsTyped cells index
      → IsTyped cells value → IsCheck cells (write_trap len index value)
  pub over_typed : (cells : List IntType) (index value : Expr)
      → length cells < 2 ^ 31 → IsTyped cells index → IsTyped cells value
      → IsCheck cells (write_over index value)

pub write_checks_tell : WriteChecksTell
write_checks_tell = record {
  trap = write_trap_tells;
  over = write_over_tells;
  trap_typed = write_trap_typed;
  over_typed = write_over_typed;
}

-- There is no check exactly where no node of the expression can trap, or overflow.
pub record ChecksStand : Type 0 where
  pub trap : (e : Expr) → (trap_check e ≡ None) ↔ NoNode can_trap_here e
  pub over : (e : Expr) → (over_check e ≡ None) ↔ NoNode can_wrap_here e

pub checks_stand : ChecksStand
checks_stand = record { trap = no_trap_check; over = no_over_check }
