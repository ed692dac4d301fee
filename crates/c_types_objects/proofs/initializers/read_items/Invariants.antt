-- What has been read, with what is read of the rest, is what is read of all.
use Rattle.std.proofs.Common.{◌≡◌, ◌++◌, drop, map}
use Rattle.std.specs.List.{flat_map}
use Rattle.c_types_rules.specs.declared.meaning.Role.TheVariants.{Valued}
use Rattle.c_types_rules.specs.First.{first_with}
use Rattle.c_types_expressions.specs.Read.{typed_of, role_faults, role_calls}
use Rattle.c_types_objects.proofs.initializers.read_items.Given as goal

abbrev pub invariant-loop-item : goal.invariant-loop-item
invariant-loop-item l =
    let s = l.reader.survey.now in
    let n = l.reader.names.now in
    let caller = l.reader.caller in
    let rest = drop l.item-index l.items in
    record {
      typed : l.typed.items ++ map (typed_of s n) rest ≡ map (typed_of s n) l.items;
      first : first_with l.notes.first (flat_map (role_faults s n Valued) rest)
          ≡ first_with l.fn.notes.first (flat_map (role_faults s n Valued) l.items);
      calls : l.notes.calls.items ++ flat_map (role_calls s n caller Valued) rest
          ≡ l.fn.notes.calls.items ++ flat_map (role_calls s n caller Valued) l.items;
    }
