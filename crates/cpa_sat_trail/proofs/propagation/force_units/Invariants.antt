use Rattle.cpa_sat_trail.specs.Progress.{IsSound, IsRisen}
use Rattle.cpa_sat_trail.proofs.propagation.force_units.Given as goal

abbrev pub invariant-loop-number : goal.invariant-loop-number
invariant-loop-number l = IsSound l.arena l.trail × IsRisen l.fn.trail l.trail
