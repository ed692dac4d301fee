use Rattle.std.proofs.Common.{◌≡◌, ◌+◌, length, drop}
use Rattle.std.specs.List.{flat_map}
use Rattle.c_types_rules.specs.Statements.{labels_of}
use Rattle.c_types_bodies.proofs.labels.+counting.Given as goal

abbrev pub invariant-count_all-loop-item : goal.invariant-count_all-loop-item
invariant-count_all-loop-item l =
    l.count + length (flat_map labels_of (drop l.item-index l.items))
    ≡ length (flat_map labels_of l.items)
