use Rattle.cpa_sat_trail.specs.Trails.{height}
use Rattle.cpa_sat_search.specs.Analyses.{IsAnalysing, IsAsserting, AreFalseBefore}
use Rattle.cpa_sat_search.proofs.conflict.reduce.Given as goal

abbrev pub invariant-loop-place : goal.invariant-loop-place
invariant-loop-place l =
    IsAnalysing l.arena l.trail l.analysis × IsAsserting l.analysis l.trail l.jump
    × AreFalseBefore l.analysis l.trail (height l.trail)
