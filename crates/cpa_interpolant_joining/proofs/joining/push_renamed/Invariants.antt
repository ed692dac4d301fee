use Rattle.std.proofs.Common.{◌≡◌, ◌++◌, map, take}
use Rattle.cpa_interpolant_joining.specs.Joining.{renamed_clause}
use Rattle.cpa_interpolant_joining.proofs.joining.push_renamed.Given as goal

abbrev pub invariant-loop-clause : goal.invariant-loop-clause
invariant-loop-clause l =
    l.clauses
    ≡ l.initial.clauses ++ map (renamed_clause l.first l.names) (take l.clause-index l.second)
