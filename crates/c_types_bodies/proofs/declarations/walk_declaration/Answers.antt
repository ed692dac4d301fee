use Rattle.std.proofs.Common.{List, map, ap, ◌∙◌}
use Rattle.c_grammar_tree.specs.declared.declaration.Declarator.{Declarator}
use Rattle.c_types_rules.specs.Declarations.{kind_of, has_const}
use Rattle.c_types_rules.specs.Statements.{Around, declarator_walk, enumeration_walk, in_order}
use Rattle.c_types_rules.specs.TypedStatements.{typed_declarators}
use Rattle.c_types_bodies.specs.States.{walked}
use Rattle.c_types_bodies.specs.Views.{state_of, around_of}
use Rattle.c_types_bodies.proofs.Declaring.{by_specifiers}
use Rattle.c_types_bodies.proofs.Scopes.{extends_then, two_walks}
use Rattle.c_types_bodies.proofs.Lists.{around_walked}
use Rattle.c_types_bodies.proofs.declarations.walk_declaration.Goals as goal

pub returns-clause-extends : goal.returns-clause-extends
returns-clause-extends c =
    extends_then c.args.walker.now.names c.walk_enumeration.new.walker.names
    c.walk_declarators.new.walker.names c.in_ok-walk_enumeration.ensures.extends
    c.in_ok-typed.ensures.extends

pub returns-clause-typed : goal.returns-clause-typed
returns-clause-typed c =
    let frame = c.args.frame.now in
    let text = frame.survey.now in
    let specifiers = c.args.declaration.now.specifiers in
    let all = c.args.declaration.now.declarators in
    let mid = c.walk_enumeration.new.walker in
    let q = c.in_ok-qualified.qualified in
    let read = c.in_ok-qualified.ensures in
    c.in_ok-typed.ensures.typed
    ∙ ap (λ (items : List Declarator).
    typed_declarators text q.kind q.is_const items (around_of frame c.args.nest mid))
    c.as_slice-list.ensures
    ∙ by_specifiers (λ k b. typed_declarators text k b all (around_of frame c.args.nest mid)) q.kind
    (kind_of text specifiers) q.is_const (has_const specifiers) read.kind read.is_const
    ∙ ap (λ (around : Around).
    typed_declarators text (kind_of text specifiers) (has_const specifiers) all around)
    (around_walked text frame.caller (enumeration_walk text specifiers.enumeration)
    (state_of frame c.args.nest c.args.walker.now c.args.jumps.now)
    (state_of frame c.args.nest mid c.args.jumps.now) c.in_ok-walk_enumeration.ensures.state)

pub returns-clause-state : goal.returns-clause-state
returns-clause-state c =
    let frame = c.args.frame.now in
    let text = frame.survey.now in
    let specifiers = c.args.declaration.now.specifiers in
    let all = c.args.declaration.now.declarators in
    let before = state_of frame c.args.nest c.walk_enumeration.new.walker c.args.jumps.now in
    let q = c.in_ok-qualified.qualified in
    let read = c.in_ok-qualified.ensures in
    two_walks text frame.caller (enumeration_walk text specifiers.enumeration)
    (in_order (map (declarator_walk text (kind_of text specifiers) (has_const specifiers)) all))
    (state_of frame c.args.nest c.args.walker.now c.args.jumps.now) before _
    c.in_ok-walk_enumeration.ensures.state
    (c.in_ok-typed.ensures.state
    ∙ ap (λ (items : List Declarator). walked text frame.caller
    (in_order (map (declarator_walk text q.kind q.is_const) items)) before)
    c.as_slice-list.ensures
    ∙ by_specifiers (λ k b. walked text frame.caller (in_order (map (declarator_walk text k b) all))
    before) q.kind (kind_of text specifiers) q.is_const (has_const specifiers) read.kind
    read.is_const)
