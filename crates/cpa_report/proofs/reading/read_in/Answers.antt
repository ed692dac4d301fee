use Rattle.serde_json.specs.Written.{compact_text}
use Rattle.cpa_report.proofs.Rules.{lined_of, utf8_of, one_found}
use Rattle.cpa_report.proofs.reading.read_in.Goals as goal
use Rattle.cpa_report_print.specs.Reports.{report_data}

pub returns-in_default-clause-back : goal.returns-in_default-clause-back
returns-in_default-clause-back c r found =
    absurd (c.in_default.ensures (compact_text (report_data r))
    (lined_of c.args.text.now c.args.take r found.told))

pub returns-in_default-2-clause-refused : goal.returns-in_default-2-clause-refused
returns-in_default-2-clause-refused c =
    c.in_ok-rule.ensures c.args.text.now c.in-Some.ensures
    (λ utf8 r told low. c.in_default-2.not-Some r (c.in_ok-report.ensures.every utf8 r told low))

pub returns-in_default-2-clause-back : goal.returns-in_default-2-clause-back
returns-in_default-2-clause-back c r found =
    let utf8 =
    utf8_of c.args.text.now c.in-Some.line.now c.args.take r c.in-Some.ensures found.told in
    absurd (c.in_default-2.not-Some r
    (c.in_ok-report.ensures.every utf8 r found.told found.low))

pub returns-clause-one : goal.returns-clause-one
returns-clause-one c =
    one_found c.a_text_is_of_one_expression.ensures c.in_ok-report.field-0 c.args.text.now
    c.in-Some.line.now c.args.take c.in-Some-2.report c.in-Some-2.is
    c.in_ok-report.ensures.found c.in_ok-report.ensures.low c.in_ok-report.ensures.every
    c.in-Some.ensures
