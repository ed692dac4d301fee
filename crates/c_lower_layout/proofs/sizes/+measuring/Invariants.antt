-- The size so far with the trees that are left is that with all of them.
use Rattle.std.proofs.Common.{◌≡◌, drop}
use Rattle.c_core_rules_laws.specs.Sizes.{heights_of}
use Rattle.c_lower_layout.specs.Measures.{grown}
use Rattle.c_lower_layout.proofs.sizes.+measuring.Given as goal

abbrev pub invariant-behind_trees-loop-tree : goal.invariant-behind_trees-loop-tree
invariant-behind_trees-loop-tree l =
    grown l.size (heights_of (drop l.tree-index l.trees)) ≡ grown l.fn.size (heights_of l.trees)
