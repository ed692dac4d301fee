-- The statements so far, and those that are left.
use Rattle.std.proofs.Common.{◌≡◌, ◌+◌, ◌-◌, ◌++◌}
use Rattle.c_core_rules.specs.Statements.{inputs}
use Rattle.c_lower_trees.proofs.statements.inputs.Given as goal

abbrev pub invariant-loop-place : goal.invariant-loop-place
invariant-loop-place l =
    l.trees ++ inputs l.origin (l.first + l.place) (l.count - l.place) ≡ inputs l.origin l.first
    l.count
