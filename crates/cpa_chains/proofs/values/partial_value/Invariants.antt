use Rattle.std.proofs.Common.{◌≡◌}
use Rattle.std.specs.Slice.Iter.{iter_rest}
use Rattle.cpa_chains.specs.Partials.{joined, partial_value}
use Rattle.cpa_chains.proofs.values.partial_value.Given as goal

abbrev pub invariant-loop-joint : goal.invariant-loop-joint
invariant-loop-joint l =
    joined l.known l.value (iter_rest l.joint-iterator) ≡ partial_value l.known l.partial
