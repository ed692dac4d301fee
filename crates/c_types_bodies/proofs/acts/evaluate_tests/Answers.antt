use Rattle.std.proofs.Common.{List, option_map, ap, ◌∙◌}
use Rattle.c_types_rules.specs.declared.meaning.Entry.{Entry}
use Rattle.c_types_rules.specs.declared.meaning.Role.TheVariants.{Evaluated}
use Rattle.c_types_rules.specs.Statements.{evaluating}
use Rattle.c_types_expressions.specs.Read.{typed_of}
use Rattle.c_types_bodies.specs.States.{State, walked}
use Rattle.c_types_bodies.proofs.acts.evaluate_tests.Goals as goal

pub returns-clause-step : goal.returns-clause-step
returns-clause-step c =
    c.in_ok-step.ensures.typed
    ∙ ap (λ (all : List Entry). option_map (typed_of c.args.frame.now.survey.now all)
    c.args.step.now) c.in_ok-test.ensures.names

pub returns-clause-state : goal.returns-clause-state
returns-clause-state c = λ nest found.
    let frame = c.args.frame.now in
    c.in_ok-step.ensures.state nest found
    ∙ ap (λ (s : State). walked frame.survey.now frame.caller
    (evaluating Evaluated c.args.step.now) s) (c.in_ok-test.ensures.state nest found)
