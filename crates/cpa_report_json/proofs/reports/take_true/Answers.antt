use Rattle.std.proofs.Common.{ap, ℕ, List}
use Rattle.cpa_ints.specs.declared.data_model.DataModel.{DataModel}
use Rattle.cpa_report_print.specs.declared.report.Listed.{Listed}
use Rattle.cpa_report_print.specs.declared.report.Body.TheVariants as body
use Rattle.cpa_report_json.proofs.Parts.{same_told, head_of}
use Rattle.cpa_report_json.proofs.reports.take_true.Goals as goal

pub returns-clause-took : goal.returns-clause-took
returns-clause-took c text points cells edges m x rest fit is =
    let head = c.in_ok-cells.ensures.took cells edges m x _ fit.0.2 fit.0.3 fit.1 is in
    let tail =
    c.in_ok-points.ensures.took m points text _
    (ap (λ (y : ℕ × ℕ × DataModel × List Listed). y.2) head.0) fit.0.1 fit.0.0 head.1 in (
      same_told (ap head_of head.0) tail.0
          (ap (λ (y : ℕ × ℕ × DataModel × List Listed). body.True y.3) head.0),
      tail.1,
    )
