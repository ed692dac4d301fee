use Rattle.std.proofs.Common.{Bool, refl, ap, ◌∙◌, is_some}
use Rattle.c_lexer.specs.declared.fault.Rule.TheVariants as rule
use Rattle.c_types_rules.specs.declared.meaning.Role.TheVariants.{Valued}
use Rattle.c_types_rules.specs.First.{first_with}
use Rattle.c_types_rules.specs.ExpressionRules.{broken, at_if}
use Rattle.c_types_rules.specs.Declarations.{is_void_kind}
use Rattle.c_types_rules.specs.Statements.{returns, doing, evaluating}
use Rattle.c_types_rules.specs.StatementRules.{agree}
use Rattle.c_types_bodies.specs.Views.{state_of}
use Rattle.c_types_bodies.proofs.Doing.{done_returns}
use Rattle.c_types_bodies.proofs.Scopes.{two_walks}
use Rattle.c_types_bodies.proofs.acts.finish.Goals as goal

pub returns-clause-state : goal.returns-clause-state
returns-clause-state c = λ nest found.
    let frame = c.args.frame.now in
    let text = frame.survey.now in
    let value = c.args.value.now in
    let before = state_of frame nest c.args.walker.now found in
    let noted =
    state_of frame nest (record c.args.walker.now { first = c.note_if.new.first }) found in
    two_walks text frame.caller (doing (returns c.args.place (is_some value)))
    (evaluating Valued value) before noted _
    (done_returns text frame.caller c.args.place (is_some value) before noted refl
    (c.note_if.ensures
    ∙ ap (λ (b : Bool).
    first_with c.args.walker.now.first (broken rule.N16 (at_if b c.args.place)))
    (c.is_misreturned-is_wrong.ensures
    ∙ ap (λ (b : Bool). agree b (is_void_kind frame.result)) c.is_some.ensures))
    refl refl refl)
    (c.in_ok-typed.ensures.state nest found)
