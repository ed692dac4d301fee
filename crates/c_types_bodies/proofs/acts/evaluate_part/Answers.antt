use Rattle.std.proofs.Common.{List, ◌++◌, Option, refl, ap, ◌∙◌}
use Rattle.c_lexer.specs.declared.fault.TextFault.{TextFault}
use Rattle.c_types_rules.specs.Items.{Call}
use Rattle.c_types_rules.specs.First.{first_with}
use Rattle.c_types_expressions.specs.Read.{role_faults, role_calls}
use Rattle.c_types_bodies.specs.Views.{state_of}
use Rattle.c_types_bodies.proofs.Doing.{done_evaluates}
use Rattle.c_types_bodies.proofs.acts.evaluate_part.Goals as goal

pub returns-clause-state : goal.returns-clause-state
returns-clause-state c = λ nest found.
    let frame = c.args.frame.now in
    let text = frame.survey.now in
    let names = c.args.walker.now.names in
    let role = c.args.role in
    let e = c.args.expression.now in
    done_evaluates text frame.caller role e (state_of frame nest c.args.walker.now found) _ refl
    (c.in_ok-read.ensures.first ∙ ap (λ (held : Option TextFault). first_with held
    (role_faults text names role e)) c.lent-notes.ensures.first)
    (c.in_ok-read.ensures.calls ∙ ap (λ (held : List Call). held
    ++ role_calls text names frame.caller role e) c.lent-notes.ensures.calls) refl refl
