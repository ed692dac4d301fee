use Rattle.std.proofs.Common.{◌∙◌}
use Rattle.c_types_globals.specs.Scopes.{before_of}
use Rattle.c_types_globals.proofs.Heads.{head_first, head_scope}
use Rattle.c_types_globals.proofs.functions.declare_function.Goals as goal

pub returns-clause-scope : goal.returns-clause-scope
returns-clause-scope c =
    let old = c.args.scope.now in
    head_scope c.args.survey.now (before_of old) (before_of c.note_enumerations.new.scope)
    c.args.defines
    c.args.specifiers.now c.args.declarator.now c.as_slice-name.result.now _ _
    c.declare_name.new.names
    (c.in_ok-note_enumerations.ensures.scope ∙ c.in_ok-note_enumeration.ensures.scope)
    c.as_slice-name.ensures c.in_ok-kind.ensures.kind c.in_ok-types.ensures
    c.in_ok-declare_name.ensures

pub returns-clause-first : goal.returns-clause-first
returns-clause-first c =
    let old = c.args.scope.now in
    head_first c.args.survey.now (before_of old) (before_of c.note_enumeration.new.scope)
    c.args.defines c.args.specifiers.now c.args.declarator.now _ _ c.listed-all.result.now
    c.args.first.now c.note_enumeration.new.first c.note_head.new.first
    c.note_enumerations.new.first c.in_ok-note_enumeration.ensures.scope
    c.in_ok-kind.ensures.kind c.in_ok-types.ensures c.listed-all.ensures
    c.in_ok-note_enumeration.ensures.first c.in_ok-note_head.ensures
    c.in_ok-note_enumerations.ensures.first
