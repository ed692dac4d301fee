use Rattle.std.proofs.Common.{◌≡◌, map, take, reverse}
use Rattle.cpa_interpolant_bits.specs.Nodes.{exprs}
use Rattle.cpa_interpolant_bits.specs.Limits.{extent_of}
use Rattle.cpa_interpolant_bits.proofs.extents.extents.Given as goal

abbrev pub invariant-loop-node : goal.invariant-loop-node
invariant-loop-node l =
    l.extents.items ≡ map extent_of (exprs l.bits (reverse (take l.node-index l.nodes)))
