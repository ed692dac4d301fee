use Rattle.std.proofs.Common.{sym, subst, OnOk}
use Rattle.cpa_report_print.specs.declared.report.Body.{Body}
use Rattle.cpa_report_print.specs.Steps.{front, before_text}
use Rattle.cpa_report_print.specs.Tokens.{Wrote}
use Rattle.cpa_report_print.proofs.bodies.write_before_text.Goals as goal

pub returns-in-NoNew : goal.returns-in-NoNew
returns-in-NoNew c =
    let member = c.write_member-in-NoNew in
    subst (λ (b : Body). OnOk member.result
    (Wrote c.args.writer.now member.new.writer (front (before_text b)))) (sym c.in-NoNew.is)
    member.ensures
