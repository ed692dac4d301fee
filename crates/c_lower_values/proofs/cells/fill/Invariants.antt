-- The cells so far, and those that are left to fill.
use Rattle.std.proofs.Common.{◌≡◌, ◌++◌, ◌-◌}
use Rattle.c_core_rules.specs.Cells.{cells_with}
use Rattle.c_lower_values.proofs.cells.fill.Given as goal

abbrev pub invariant-loop-place : goal.invariant-loop-place
invariant-loop-place l =
    l.cells.items ++ cells_with l.ty (l.count - l._place) l.values
    ≡ l.fn.cells.items ++ cells_with l.ty l.count l.fn.values
