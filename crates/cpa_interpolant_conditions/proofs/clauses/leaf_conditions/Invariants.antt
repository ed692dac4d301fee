use Rattle.std.proofs.Common.{◌≡◌, [], drop}
use Rattle.cpa_interpolant_conditions.specs.Making.{leaves_made, numbered}
use Rattle.cpa_interpolant_conditions.proofs.clauses.leaf_conditions.Given as goal

abbrev pub invariant-loop-leaf : goal.invariant-loop-leaf
invariant-loop-leaf l =
    leaves_made (numbered l.conditions l.known.items) (drop l.leaf-index l.leaves)
    ≡ leaves_made (numbered l.initial.conditions []) l.leaves
