use Rattle.std.proofs.Common.{◌-◌}
use Rattle.cpa_sat_trail.specs.Progress.{IsSound, IsRisen}
use Rattle.cpa_sat_trail.proofs.propagation.propagate.Given as goal

abbrev pub invariant-loop-next : goal.invariant-loop-next
invariant-loop-next l = IsSound l.arena l.trail × IsRisen l.fn.trail l.trail

abbrev pub decreases-loop-next : goal.decreases-loop-next
decreases-loop-next l = l.trail.vars - l.next
