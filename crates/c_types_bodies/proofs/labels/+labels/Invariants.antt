use Rattle.std.proofs.Common.{◌≡◌, ◌++◌, drop, map}
use Rattle.std.specs.List.{flat_map}
use Rattle.c_types_rules.specs.Statements.{labels_of}
use Rattle.c_types_bodies.specs.Grown.{name_bytes}
use Rattle.c_types_bodies.proofs.labels.+labels.Given as goal

abbrev pub invariant-push_all-loop-item : goal.invariant-push_all-loop-item
invariant-push_all-loop-item l =
    l.labels ++ map name_bytes (flat_map labels_of (drop l.item-index l.items))
    ≡ l.fn.labels ++ map name_bytes (flat_map labels_of l.items)
