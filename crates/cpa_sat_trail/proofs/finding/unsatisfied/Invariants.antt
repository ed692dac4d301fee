use Rattle.std.proofs.Common.{◌<◌, ℕ, []}
use Rattle.std.specs.Prelude.{slice_index_or}
use Rattle.cpa_sat_trail.specs.Findings.{IsSatisfiedIn}
use Rattle.cpa_sat_trail.proofs.finding.unsatisfied.Given as goal

abbrev pub invariant-loop-number : goal.invariant-loop-number
invariant-loop-number l = (k : ℕ) → k < l.number
    → IsSatisfiedIn l.trail (slice_index_or l.arena k [])
