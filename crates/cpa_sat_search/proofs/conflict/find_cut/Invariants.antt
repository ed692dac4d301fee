use Rattle.std.proofs.Common.{◌≢◌, ◌<◌, ◌≤◌, ℕ}
use Rattle.cpa_sat_arena.specs.declared.literal.TheConstants.{NO_CLAUSE}
use Rattle.cpa_sat_trail.specs.Trails.{reason_at}
use Rattle.cpa_sat_search.proofs.conflict.find_cut.Given as goal

abbrev pub invariant-loop-cut : goal.invariant-loop-cut
invariant-loop-cut l = (k : ℕ) → l.low ≤ k → k < l.cut → reason_at l.trail k ≢ NO_CLAUSE
