-- What the checks of a write tell, and that they are well typed.
use Rattle.std.proofs.Common.{◌⊎◌, ℕ, ◌<◌, ◌≤◌, ◌^◌, ℤ, List, length, IsSome, IsSomeAnd}
use Rattle.cpa_ints.specs.declared.integers.IntType.{IntType}
use Rattle.cpa_expr.specs.declared.tree.Expr.{Expr}
use Rattle.cpa_expr.specs.Shape.{IsTyped}
use Rattle.cpa_expr.specs.Values.{value_of}
use Rattle.cpa_expr.specs.Traps.{IsOutside, Traps}
use Rattle.cpa_expr.specs.Cells.{AreValues}
use Rattle.cpa_trap_checks.specs.Wraps.{Wraps}
use Rattle.cpa_trap_checks.specs.Checks.{either, index_trap, trap_check, over_check, write_trap}
use Rattle.cpa_trap_checks.specs.Checks.{write_over}
use Rattle.cpa_trap_checks.specs.Tells.{Tells, IsCheck}
use Rattle.cpa_trap_checks.specs.lemmas.Deciding.{tell_either}
use Rattle.cpa_trap_checks.specs.lemmas.TrapValues.{index_tells, trap_tells}
use Rattle.cpa_trap_checks.specs.lemmas.OverValues.{then_tells, over_tells}
use Rattle.cpa_trap_checks.specs.lemmas.Typing.{either_check, index_check, then_check, checks_typed}

pub write_trap_tells : (cells : List IntType) (len : ℕ) (index value : Expr) (values : List ℤ)
    → 1 ≤ len → IsTyped cells index → IsTyped cells value → AreValues cells values
    → Tells values (write_trap len index value)
    ((Traps values index ⊎ IsSomeAnd (value_of index values) (IsOutside len)) ⊎ Traps values value)
write_trap_tells cells len index value values some typed typed_value fit =
    let outside = IsSomeAnd (value_of index values) (IsOutside len) in
    tell_either values (either (trap_check index) (index_trap len index)) (trap_check value)
    (Traps values index ⊎ outside) (Traps values value)
    (tell_either values (trap_check index) (index_trap len index) (Traps values index) outside
    (trap_tells cells index values typed fit)
    (λ n. index_tells cells values fit len index some typed n))
    (λ n. trap_tells cells value values typed_value fit)

pub write_over_tells : (cells : List IntType) (index value : Expr) (values : List ℤ)
    → IsTyped cells index → IsTyped cells value → AreValues cells values
    → Tells values (write_over index value)
    (Wraps values index ⊎ (IsSome (value_of index values) × Wraps values value))
write_over_tells cells index value values typed typed_value fit =
    then_tells cells values fit index (over_check value) (Wraps values value) typed
    (over_tells cells index values typed fit)
    (λ v is. over_tells cells value values typed_value fit)

pub write_trap_typed : (cells : List IntType) (len : ℕ) (index value : Expr)
    → length cells < 2 ^ 31 → 1 ≤ len → len ≤ length cells → IsTyped cells index
    → IsTyped cells value → IsCheck cells (write_trap len index value)
write_trap_typed cells len index value few some inside typed typed_value =
    either_check cells (either (trap_check index) (index_trap len index)) (trap_check value)
    (either_check cells (trap_check index) (index_trap len index)
    (checks_typed cells index few typed).trap (index_check cells len index typed some inside few))
    (checks_typed cells value few typed_value).trap

pub write_over_typed : (cells : List IntType) (index value : Expr)
    → length cells < 2 ^ 31 → IsTyped cells index → IsTyped cells value
    → IsCheck cells (write_over index value)
write_over_typed cells index value few typed typed_value =
    then_check cells index (over_check value) (checks_typed cells index few typed)
    (checks_typed cells value few typed_value).over
