use Rattle.std.proofs.Common.{length, ◌-◌}
use Rattle.cpa_outside.proofs.Grown.{HasWritten}
use Rattle.cpa_outside.proofs.writes.write_whole.Given as goal

abbrev pub invariant-loop-done : goal.invariant-loop-done
invariant-loop-done g l =
    HasWritten (g.K.Sink.written l.initial.out) (g.K.Sink.faults l.initial.out) l.bytes l.done
    (g.K.Sink.written l.out) (g.K.Sink.faults l.out)

abbrev pub decreases-loop-done : goal.decreases-loop-done
decreases-loop-done g l = length l.bytes - l.done
