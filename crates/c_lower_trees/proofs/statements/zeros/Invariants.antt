-- The statements so far, and those that are left.
use Rattle.std.proofs.Common.{◌≡◌, ◌+◌, ◌-◌, ◌++◌}
use Rattle.c_core_rules.specs.Statements.{zeros}
use Rattle.c_lower_trees.proofs.statements.zeros.Given as goal

abbrev pub invariant-loop-place : goal.invariant-loop-place
invariant-loop-place l =
    l.trees ++ zeros l.origin l.ty (l.first + l.place) (l.count - l.place) ≡ zeros l.origin l.ty
    l.first l.count
