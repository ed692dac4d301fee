-- What has been read, with what is read of the rest, is what is read of all.
use Rattle.std.proofs.Common.{◌≡◌, ◌++◌, drop, map}
use Rattle.std.specs.List.{flat_map}
use Rattle.c_types_rules.specs.First.{first_with}
use Rattle.c_types_rules.specs.Items.{start_faults}
use Rattle.c_types_rules.specs.Sound.{start_value}
use Rattle.c_types_objects.proofs.initializers.read_start_items.Given as goal

abbrev pub invariant-loop-item : goal.invariant-loop-item
invariant-loop-item l =
    let rest = drop l.item-index l.items in
    record {
      values : l.values.items ++ map (start_value l.survey l.names l.ty) rest
          ≡ map (start_value l.survey l.names l.ty) l.items;
      first : first_with l.first (flat_map (start_faults l.survey l.names) rest)
          ≡ first_with l.fn.first (flat_map (start_faults l.survey l.names) l.items);
    }
