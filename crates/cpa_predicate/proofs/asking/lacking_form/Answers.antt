-- The step with the predicate's truth failing behind it.
use Rattle.std.proofs.Common.{ap, ◌∙◌, List}
use Rattle.cpa_model.specs.declared.facts.Elem.{Elem}
use Rattle.cpa_form_rules.specs.Forms.{Form, with_added}
use Rattle.cpa_form_rules.specs.Runs.{failing}
use Rattle.cpa_predicate.specs.Questions.{lacking}
use Rattle.cpa_predicate.proofs.asking.lacking_form.Goals as goal

pub returns : goal.returns
returns c =
    c.in_ok-fails_now.ensures.ok
    ∙ ap (λ (es : List Elem). with_added (failing es) c.in_ok-form.form)
    (c.as_slice.ensures.value ∙ c.in_ok-truth.ensures)
    ∙ ap (λ (f : Form). lacking c.args.p.now c.args.holds f) c.in_ok-form.ensures
