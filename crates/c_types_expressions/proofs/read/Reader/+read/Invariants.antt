-- What has been read, with what is read of the rest, is what is read of all.
use Rattle.std.proofs.Common.{◌≡◌, ◌++◌, drop, map}
use Rattle.std.specs.List.{flat_map}
use Rattle.c_types_rules.specs.declared.meaning.Role.TheVariants.{Valued, Evaluated}
use Rattle.c_types_rules.specs.First.{first_with}
use Rattle.c_types_rules.specs.Parts.{chain_type, last_kind, with_values}
use Rattle.c_types_rules.specs.ExpressionRules.{uses_faults}
use Rattle.c_types_expressions.specs.Read.{part_of, typed_of, role_faults, role_calls, uses_calls}
use Rattle.c_types_expressions.specs.Read.{link_part, link_typed, link_faults, link_calls}
use Rattle.c_types_expressions.specs.Read.{suffixed_of}
use Rattle.c_types_expressions.proofs.read.Reader.+read.Given as goal

abbrev pub invariant-read_links-loop-link : goal.invariant-read_links-loop-link
invariant-read_links-loop-link l =
    let s = l.self.survey.now in
    let n = l.self.names.now in
    let caller = l.self.caller in
    let rest = drop l.link-index l.rest in
    record {
      ty : chain_type l.ty (map (link_part s n) rest)
          ≡ chain_type l.fn.left (map (link_part s n) l.rest);
      typed : l.typed.items ++ map (link_typed s n) rest ≡ map (link_typed s n) l.rest;
      first : first_with l.notes.first (flat_map (link_faults s n) rest)
          ≡ first_with l.fn.notes.first (flat_map (link_faults s n) l.rest);
      calls : l.notes.calls.items ++ flat_map (link_calls s n caller) rest
          ≡ l.fn.notes.calls.items ++ flat_map (link_calls s n caller) l.rest;
    }

abbrev pub invariant-read_items-loop-item : goal.invariant-read_items-loop-item
invariant-read_items-loop-item l =
    let s = l.self.survey.now in
    let n = l.self.names.now in
    let caller = l.self.caller in
    let rest = drop l.item-index l.items in
    record {
      kind : last_kind l.kind (map (part_of s n) rest)
          ≡ last_kind l.fn.before (map (part_of s n) l.items);
      typed : l.typed.items ++ map (typed_of s n) rest ≡ map (typed_of s n) l.items;
      first : first_with l.notes.first (flat_map (role_faults s n Evaluated) rest)
          ≡ first_with l.fn.notes.first (flat_map (role_faults s n Evaluated) l.items);
      calls : l.notes.calls.items ++ flat_map (role_calls s n caller Evaluated) rest
          ≡ l.fn.notes.calls.items ++ flat_map (role_calls s n caller Evaluated) l.items;
    }

abbrev pub invariant-read_arguments-loop-argument : goal.invariant-read_arguments-loop-argument
invariant-read_arguments-loop-argument l =
    let s = l.self.survey.now in
    let n = l.self.names.now in
    let caller = l.self.caller in
    let rest = drop l.argument-index l.arguments in
    record {
      kind : with_values l.kind (map (part_of s n) rest)
          ≡ with_values l.fn.result_kind (map (part_of s n) l.arguments);
      typed : l.typed.items ++ map (typed_of s n) rest ≡ map (typed_of s n) l.arguments;
      first : first_with l.notes.first (flat_map (role_faults s n Valued) rest)
          ≡ first_with l.fn.notes.first (flat_map (role_faults s n Valued) l.arguments);
      calls : l.notes.calls.items ++ flat_map (role_calls s n caller Valued) rest
          ≡ l.fn.notes.calls.items ++ flat_map (role_calls s n caller Valued) l.arguments;
    }

abbrev pub invariant-read_suffixes-loop-suffix : goal.invariant-read_suffixes-loop-suffix
invariant-read_suffixes-loop-suffix l =
    let s = l.self.survey.now in
    let n = l.self.names.now in
    let caller = l.self.caller in
    let rest = suffixed_of s n l.part (drop l.suffix-index l.suffixes) in
    let all = suffixed_of s n l.fn.base l.suffixes in
    record {
      part : rest.part ≡ all.part;
      typed : l.typed.items ++ rest.typed ≡ all.typed;
      first : first_with l.notes.first (uses_faults rest.uses)
          ≡ first_with l.fn.notes.first (uses_faults all.uses);
      calls : l.notes.calls.items ++ uses_calls caller rest.uses
          ≡ l.fn.notes.calls.items ++ uses_calls caller all.uses;
    }
