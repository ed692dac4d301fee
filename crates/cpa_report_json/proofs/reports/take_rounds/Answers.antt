use Rattle.std.proofs.Common.{ap, ap₂, ℕ}
use Rattle.cpa_ints.specs.declared.data_model.DataModel.{DataModel}
use Rattle.cpa_report_print.specs.declared.report.Body.TheVariants as body
use Rattle.cpa_report_json.proofs.Parts.{same_told, passed_on}
use Rattle.cpa_report_json.proofs.reports.take_rounds.Goals as goal

pub returns-in_err-points-clause-took : goal.returns-in_err-points-clause-took
returns-in_err-points-clause-took c text points cells edges m x rest fit is =
    let head = c.in_ok-cells.ensures.took cells edges m _ fit.0.2 fit.0.3 is in
    let first = c.in_ok-history.ensures.took x.1 _ fit.1.1 head.1 in
    let second =
    c.in_ok-path.ensures.took m x.0 _ _ (ap (λ (y : ℕ × ℕ × DataModel). y.2) head.0) fit.1.0
    first.1 in
    passed_on _ rest _ _ _ c.from_residual-in_err-points.ensures.1
    (c.in_err-points.ensures.took points text _ fit.0.1 fit.0.0 second.1)

pub returns-clause-took : goal.returns-clause-took
returns-clause-took c text points cells edges m x rest fit is =
    let head = c.in_ok-cells.ensures.took cells edges m _ fit.0.2 fit.0.3 is in
    let first = c.in_ok-history.ensures.took x.1 _ fit.1.1 head.1 in
    let second =
    c.in_ok-path.ensures.took m x.0 _ _ (ap (λ (y : ℕ × ℕ × DataModel). y.2) head.0) fit.1.0
    first.1 in
    let tail = c.in_ok-points.ensures.took points text _ fit.0.1 fit.0.0 second.1 in
    (same_told head.0 tail.0 (ap₂ body.Rounds second.0 first.0), tail.1)
