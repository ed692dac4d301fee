use Rattle.std.proofs.Common.{sym, subst, OnOk}
use Rattle.cpa_ints.specs.declared.data_model.DataModel.{DataModel}
use Rattle.cpa_report_print.specs.Reports.{model_members}
use Rattle.cpa_report_print.specs.Steps.{front}
use Rattle.cpa_report_print.specs.Tokens.{Wrote}
use Rattle.cpa_report_print.proofs.Writing.{one, last}
use Rattle.cpa_report_print.proofs.bodies.write_model.Goals as goal

pub returns-in_ok-key-in-Ilp32 : goal.returns-in_ok-key-in-Ilp32
returns-in_ok-key-in-Ilp32 c =
    let text = c.string in
    subst (λ (m : DataModel). OnOk text.result
    (Wrote c.args.writer.now text.new.self (front (model_members m)))) (sym c.in-Ilp32.is)
    (last (one c.key.ensures.room.0 c.in_ok-key-in-Ilp32.ensures.ok) text.ensures)
