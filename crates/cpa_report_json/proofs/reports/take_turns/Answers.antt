use Rattle.std.proofs.Common.{ap, ℕ}
use Rattle.cpa_ints.specs.declared.data_model.DataModel.{DataModel}
use Rattle.cpa_report_print.specs.declared.report.Body.TheVariants as body
use Rattle.cpa_report_json.proofs.Parts.{same_told}
use Rattle.cpa_report_json.proofs.reports.take_turns.Goals as goal

pub returns-clause-took : goal.returns-clause-took
returns-clause-took c text points cells edges m x rest fit is =
    let head = c.in_ok-cells.ensures.took cells edges m _ fit.0.2 fit.0.3 is in
    let first = c.in_ok-journal.ensures.took x _ fit.1 head.1 in
    let tail =
    c.in_ok-points.ensures.took m points text _ (ap (λ (y : ℕ × ℕ × DataModel). y.2) head.0)
    fit.0.1 fit.0.0 first.1 in
    (same_told head.0 tail.0 (ap body.Turns first.0), tail.1)
