use Rattle.std.proofs.Common.{refl, ap, ◌∙◌}
use Rattle.c_types_rules.specs.declared.meaning.Role.TheVariants.{Valued, Evaluated}
use Rattle.c_types_rules.specs.Statements.{Around, evaluating, start_walk}
use Rattle.c_types_rules.specs.TypedStatements.{typed_optional}
use Rattle.c_types_bodies.specs.States.{State, walked}
use Rattle.c_types_bodies.specs.Views.{state_of, state_at}
use Rattle.c_types_bodies.proofs.Lists.{around_walked, around_evaluated}
use Rattle.c_types_bodies.proofs.Scopes.{tied_same}
use Rattle.c_types_bodies.proofs.walker.Scope.walk_head.Goals as goal

pub returns-clause-tied : goal.returns-clause-tied
returns-clause-tied c =
    tied_same c.args.self.now.frame.now c.walk_start.new.progress.walker c.evaluate_tests.new.walker
    c.walk_start.new.progress.jumps c.in_ok-start.ensures.tied c.in_ok-tests.ensures.names
    c.in_ok-tests.ensures.objects c.in_ok-tests.ensures.cases

pub returns-clause-extends : goal.returns-clause-extends
returns-clause-extends c = record {
  rest = c.in_ok-start.ensures.extends.rest;
  is = c.in_ok-tests.ensures.names ∙ c.in_ok-start.ensures.extends.is;
}

pub returns-clause-test : goal.returns-clause-test
returns-clause-test c =
    let frame = c.args.self.now.frame.now in
    let text = frame.survey.now in
    c.in_ok-tests.ensures.test
    ∙ ap (λ (around : Around). typed_optional text around c.args.test.now)
    (around_walked text frame.caller (start_walk text c.args.start.now)
    (state_at c.args.self.now c.args.progress.now)
    (state_at c.args.self.now c.walk_start.new.progress)
    c.in_ok-start.ensures.state)

pub returns-clause-step : goal.returns-clause-step
returns-clause-step c =
    let frame = c.args.self.now.frame.now in
    let text = frame.survey.now in
    c.in_ok-tests.ensures.step
    ∙ ap (λ (around : Around). typed_optional text around c.args.step.now)
    (around_walked text frame.caller (start_walk text c.args.start.now)
    (state_at c.args.self.now c.args.progress.now)
    (state_at c.args.self.now c.walk_start.new.progress)
    c.in_ok-start.ensures.state)

pub returns-clause-around : goal.returns-clause-around
returns-clause-around c =
    let frame = c.args.self.now.frame.now in
    let text = frame.survey.now in
    let begun = c.walk_start.new.progress.walker in
    let found = c.walk_start.new.progress.jumps in
    let before = state_of frame c.args.self.now.nest begun found in
    let tested = walked text frame.caller (evaluating Valued c.args.test.now) before in
    around_evaluated text frame.caller Evaluated c.args.step.now tested
    (state_of frame c.args.self.now.nest c.evaluate_tests.new.walker found)
    (c.in_ok-tests.ensures.state c.args.self.now.nest found)
    ∙ around_evaluated text frame.caller Valued c.args.test.now before tested refl
    ∙ around_walked text frame.caller (start_walk text c.args.start.now)
    (state_at c.args.self.now c.args.progress.now)
    (state_of frame c.args.self.now.nest begun c.walk_start.new.progress.jumps)
    c.in_ok-start.ensures.state

pub returns-clause-state : goal.returns-clause-state
returns-clause-state c =
    let frame = c.args.self.now.frame.now in
    let text = frame.survey.now in
    c.in_ok-tests.ensures.state c.args.self.now.nest c.walk_start.new.progress.jumps
    ∙ ap (λ (s : State). walked text frame.caller (evaluating Evaluated c.args.step.now)
    (walked text frame.caller (evaluating Valued c.args.test.now) s)) c.in_ok-start.ensures.state
