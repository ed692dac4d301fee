use Rattle.std.proofs.Common.{◌∙◌, ap}
use Rattle.cpa_expr_text.specs.Reading.{texts}
use Rattle.cpa_expr_text.proofs.Counting.{text_due}
use Rattle.cpa_expr_text.proofs.due.is_expr_text.Goals as goal

pub returns : goal.returns
returns c =
    let due = text_due c.args.text.now (texts c.as_slice.result.now)
    (ap texts c.as_slice.ensures.value ∙ c.in_ok-words.ensures) in
    (λ h. due.0 (c.in_ok-is.ensures.0 h), λ h. c.in_ok-is.ensures.1 (due.1 h))
