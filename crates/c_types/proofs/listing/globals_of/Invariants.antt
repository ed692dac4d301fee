use Rattle.std.proofs.Common.{◌≡◌, ◌++◌, drop}
use Rattle.std.specs.List.{flat_map}
use Rattle.c_types_rules.specs.Sound.{global_named, object_names, globals_of}
use Rattle.c_types.proofs.listing.globals_of.Given as goal

abbrev pub invariant-loop-declaration : goal.invariant-loop-declaration
invariant-loop-declaration l =
    l.globals.items ++ flat_map (global_named l.names l.starts)
    (object_names l.seen (drop l.declaration-index l.declarations)) ≡ globals_of l.names l.starts
