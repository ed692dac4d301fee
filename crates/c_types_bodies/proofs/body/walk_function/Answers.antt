use Rattle.std.proofs.Common.{refl}
use Rattle.c_types_bodies.specs.Views.{base_of}
use Rattle.c_types_bodies.proofs.Function.{begins_is, is_read, outermost, typed_is, tied_from}
use Rattle.c_types_bodies.proofs.body.walk_function.Goals as goal

pub walk_parameters-requires : goal.walk_parameters-requires
walk_parameters-requires c =
    tied_from _ _ _ c.requires.jumps c.len-file.ensures c.requires.numbered c.requires.fresh

pub returns-clause-objects : goal.returns-clause-objects
returns-clause-objects c =
    (is_read _ (outermost c.len-file.result) c.args.progress.now.walker c.walk_parameters.new.walker
    c.walk_items.new.progress.walker c.args.progress.now.jumps c.walk_parameters.new.jumps
    c.walk_items.new.progress.jumps
    c.args.function.now.specifiers.now c.args.function.now.parameters.now
    c.args.function.now.items.now c.listed.result.now _
    c.in_ok-parameters.ensures.tied c.listed.ensures c.requires.jumps
    (begins_is _ (outermost c.len-file.result) c.args.progress.now.walker
    c.args.function.now.specifiers.now
    c.args.function.now.items.now c.in_ok-parameters.ensures.tied c.len-file.ensures refl
    c.requires.fresh
    c.in_ok-result.ensures.kind c.in_ok-labels.ensures) c.in_ok-parameters.ensures.state
    c.in_ok-items.ensures.state
    (c.in_ok-note.ensures (base_of c.len-file.result c.walk_items.new.progress.walker.names)
    c.in_ok-items.ensures.tied.below)).objects

pub returns-clause-typed : goal.returns-clause-typed
returns-clause-typed c =
    typed_is _ (outermost c.len-file.result) c.args.progress.now.walker c.walk_parameters.new.walker
    c.args.progress.now.jumps c.walk_parameters.new.jumps c.args.function.now.specifiers.now
    c.args.function.now.parameters.now c.args.function.now.items.now c.listed.result.now
    c.in_ok-parameters.parameters
    c.in_ok-items.items c.args.function.now.place c.args.function.now.end
    c.in_ok-parameters.ensures.tied c.listed.ensures
    (begins_is _ (outermost c.len-file.result) c.args.progress.now.walker
    c.args.function.now.specifiers.now
    c.args.function.now.items.now c.in_ok-parameters.ensures.tied c.len-file.ensures refl
    c.requires.fresh
    c.in_ok-result.ensures.kind c.in_ok-labels.ensures) c.in_ok-parameters.ensures.state
    c.in_ok-result.ensures.kind c.in_ok-parameters.ensures.objects c.in_ok-items.ensures.typed

pub returns-clause-first : goal.returns-clause-first
returns-clause-first c =
    (is_read _ (outermost c.len-file.result) c.args.progress.now.walker c.walk_parameters.new.walker
    c.walk_items.new.progress.walker c.args.progress.now.jumps c.walk_parameters.new.jumps
    c.walk_items.new.progress.jumps
    c.args.function.now.specifiers.now c.args.function.now.parameters.now
    c.args.function.now.items.now c.listed.result.now _
    c.in_ok-parameters.ensures.tied c.listed.ensures c.requires.jumps
    (begins_is _ (outermost c.len-file.result) c.args.progress.now.walker
    c.args.function.now.specifiers.now
    c.args.function.now.items.now c.in_ok-parameters.ensures.tied c.len-file.ensures refl
    c.requires.fresh
    c.in_ok-result.ensures.kind c.in_ok-labels.ensures) c.in_ok-parameters.ensures.state
    c.in_ok-items.ensures.state
    (c.in_ok-note.ensures (base_of c.len-file.result c.walk_items.new.progress.walker.names)
    c.in_ok-items.ensures.tied.below)).first

pub returns-clause-calls : goal.returns-clause-calls
returns-clause-calls c =
    (is_read _ (outermost c.len-file.result) c.args.progress.now.walker c.walk_parameters.new.walker
    c.walk_items.new.progress.walker c.args.progress.now.jumps c.walk_parameters.new.jumps
    c.walk_items.new.progress.jumps
    c.args.function.now.specifiers.now c.args.function.now.parameters.now
    c.args.function.now.items.now c.listed.result.now _
    c.in_ok-parameters.ensures.tied c.listed.ensures c.requires.jumps
    (begins_is _ (outermost c.len-file.result) c.args.progress.now.walker
    c.args.function.now.specifiers.now
    c.args.function.now.items.now c.in_ok-parameters.ensures.tied c.len-file.ensures refl
    c.requires.fresh
    c.in_ok-result.ensures.kind c.in_ok-labels.ensures) c.in_ok-parameters.ensures.state
    c.in_ok-items.ensures.state
    (c.in_ok-note.ensures (base_of c.len-file.result c.walk_items.new.progress.walker.names)
    c.in_ok-items.ensures.tied.below)).calls
