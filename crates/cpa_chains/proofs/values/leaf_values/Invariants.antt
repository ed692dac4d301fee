use Rattle.std.proofs.Common.{◌≡◌, map, take}
use Rattle.cpa_chains.specs.Partials.{leaf_value}
use Rattle.cpa_chains.proofs.values.leaf_values.Given as goal

abbrev pub invariant-loop-leaf : goal.invariant-loop-leaf
invariant-loop-leaf l = l.known.items ≡ map (leaf_value l.values) (take l.leaf-index l.leaves)
