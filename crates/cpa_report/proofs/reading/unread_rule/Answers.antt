use Rattle.std.proofs.Common.{Option, subst}
use Rattle.std.specs.Prelude.{IfSome, IsUtf8}
use Rattle.cpa_report.specs.Heights.{IsLineLike}
use Rattle.cpa_report.proofs.Rules.{no_report}
use Rattle.cpa_report.proofs.reading.unread_rule.Goals as goal
use Rattle.cpa_report_print.specs.declared.report.Report.{Report}

pub returns-in-Some : goal.returns-in-Some
returns-in-Some c text lined none =
    c.high_rule.ensures text c.args.line.now c.args.take lined none
    (subst (λ (o : Option Report). IfSome o (λ r. IsUtf8 c.args.line.now)) c.in-Some.is
    c.in_ok-low.ensures.utf8)
    (subst (λ (o : Option Report). IfSome o (IsLineLike c.args.line.now c.args.take)) c.in-Some.is
    c.in_ok-low.ensures.like)

pub returns-then-branch : goal.returns-then-branch
returns-then-branch c text lined none =
    let json = c.in_ok-is_json.ensures.0 c.if-branch.true in (
      c.args.line.now,
      lined,
      json,
      no_report c.in_ok-low.field-0 text c.args.line.now c.args.take c.in_default.not-Some
          c.in_ok-low.ensures.every lined json.utf8,
    )
