use Rattle.std.proofs.Common.{Bool, not, refl, ap, ◌∙◌}
use Rattle.c_lexer.specs.declared.fault.Rule.TheVariants as rule
use Rattle.c_types_rules.specs.First.{first_with}
use Rattle.c_types_rules.specs.ExpressionRules.{broken, at_if}
use Rattle.c_types_bodies.specs.Views.{state_of}
use Rattle.c_types_bodies.proofs.Doing.{done_breaks}
use Rattle.c_types_bodies.proofs.acts.leave.Goals as goal

pub returns-clause-state : goal.returns-clause-state
returns-clause-state c = λ found.
    let frame = c.args.frame.now in
    let walker = c.args.walker.now in
    done_breaks frame.survey.now frame.caller c.args.place
    (state_of frame c.args.nest walker found) _ refl
    (c.note_if.ensures
    ∙ ap (λ (b : Bool).
    first_with walker.first (broken rule.N8 (at_if (not b) c.args.place)))
    c.has_end-inside.ensures)
    refl refl refl
