use Rattle.cpa_sat_search.specs.Analyses.{IsAnalysing, AreFalseBefore}
use Rattle.cpa_sat_search.proofs.conflict.walk.Given as goal

abbrev pub invariant-loop-at : goal.invariant-loop-at
invariant-loop-at l = IsAnalysing l.arena l.trail l.analysis
    × AreFalseBefore l.analysis l.trail l.at
