use Rattle.std.proofs.Common.{◌≡◌, ◌++◌, drop}
use Rattle.cpa_chains.specs.Tables.{leaves_noted}
use Rattle.cpa_chains.proofs.clauses.all_leaves.Given as goal

abbrev pub invariant-loop-i : goal.invariant-loop-i
invariant-loop-i l =
    l.leaves.items ++ leaves_noted l.table (drop l.i l.sides) (drop l.i l.clauses)
    ≡ leaves_noted l.table l.sides l.clauses
