use Rattle.std.proofs.Common.{◌≡◌}
use Rattle.std.specs.Slice.Iter.{iter_rest}
use Rattle.cpa_interpolant_bits.specs.Nodes.{made}
use Rattle.cpa_interpolant_conditions.specs.Making.{joints_made, numbered, partial_made}
use Rattle.cpa_interpolant_conditions.proofs.lines.partial_condition.Given as goal

abbrev pub invariant-loop-joint : goal.invariant-loop-joint
invariant-loop-joint l =
    joints_made l.known (made l.conditions l.condition) (iter_rest l.joint-iterator)
    ≡ partial_made (numbered l.initial.conditions l.known) l.partial
