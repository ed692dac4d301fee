use Rattle.std.proofs.Common.{◌≤◌, length}
use Rattle.cpa_sat_search.specs.States.{IsState, rank}
use Rattle.cpa_sat_trail.specs.Propagations.{IsPropagated}
use Rattle.cpa_sat_search.proofs.start.run.Given as goal

abbrev pub invariant-loop-search : goal.invariant-loop-search
invariant-loop-search l =
    IsState l.cnf l.search × (length l.search.lines.items ≤ l.learnt)
    × IsPropagated l.search.arena l.search.trail l.conflict

abbrev pub decreases-loop-search : goal.decreases-loop-search
decreases-loop-search l = rank l.learnt l.search
