use Rattle.std.proofs.Common.{refl}
use Rattle.c_types_bodies.specs.Views.{around_of}
use Rattle.c_types_bodies.proofs.Enumerating.{enumeration_tied, enumeration_state}
use Rattle.c_types_bodies.proofs.declarations.walk_enumeration.Goals as goal

pub returns-clause-tied : goal.returns-clause-tied
returns-clause-tied c =
    let frame = c.args.frame.now in
    let old = c.args.walker.now in
    let read = c.in_ok-read_enumeration.ensures in
    let around = around_of frame c.args.nest old in
    enumeration_tied frame c.args.nest old (record old {
      names = c.read_enumeration.new.names;
      first = c.read_enumeration.new.first;
      calls = c.read_enumeration.new.calls;
    }) c.args.jumps.now c.args.enumeration.now c.requires read.added
    (read.names around (record { names_are = refl; outer_is = refl })) refl refl

pub returns-clause-extends : goal.returns-clause-extends
returns-clause-extends c = record {
  rest = c.in_ok-read_enumeration.ensures.added.added;
  is = c.in_ok-read_enumeration.ensures.added.is;
}

pub returns-clause-state : goal.returns-clause-state
returns-clause-state c =
    let frame = c.args.frame.now in
    let old = c.args.walker.now in
    let read = c.in_ok-read_enumeration.ensures in
    let around = around_of frame c.args.nest old in
    enumeration_state frame c.args.nest old c.read_enumeration.new.names
    c.read_enumeration.new.first c.read_enumeration.new.calls c.args.jumps.now
    c.args.enumeration.now c.requires read.added
    (read.names around (record { names_are = refl; outer_is = refl }))
    (read.first around (record { names_are = refl; outer_is = refl }))
    (read.calls around (record { names_are = refl; outer_is = refl }))
