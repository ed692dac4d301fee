use Rattle.cpa_sat_trail.specs.Progress.{IsSound, IsRisen}
use Rattle.cpa_sat_trail.proofs.propagation.wake_all.Given as goal

abbrev pub invariant-loop-i : goal.invariant-loop-i
invariant-loop-i l = IsSound l.arena l.trail × IsRisen l.fn.trail l.trail
