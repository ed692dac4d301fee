use Rattle.std.proofs.Common.{◌≡◌, ◌∙◌, IfOk, ap, subst, sym}
use Rattle.c_types_rules.specs.Names.{Text}
use Rattle.c_types_rules.specs.Items.{text_in}
use Rattle.c_types.specs.Outcomes.{IsOutcome}
use Rattle.c_types.proofs.outcome.find_outcome.Goals as goal

pub outcome_over-requires : goal.outcome_over-requires
outcome_over-requires c =
    let unit = c.args.unit.now in
    let is = c.in_ok-survey.ensures ∙ ap (text_in c.args.model) c.as_slice.ensures in
    let same = ap (λ (t : Text). t.model) is in
    subst (λ m. c.in_ok-survey.survey ≡ text_in m unit.items) (sym same) is

pub returns : goal.returns
returns c =
    let unit = c.args.unit.now in
    let is = c.in_ok-survey.ensures ∙ ap (text_in c.args.model) c.as_slice.ensures in
    let same = ap (λ (t : Text). t.model) is in
    subst (λ m. IfOk c.outcome_over.result (IsOutcome m unit)) same c.outcome_over.ensures
