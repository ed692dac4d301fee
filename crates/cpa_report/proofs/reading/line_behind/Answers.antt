use Rattle.std.proofs.Common.{◌∙◌, sym}
use Rattle.cpa_report_print.specs.Reports.{verdict_words}
use Rattle.cpa_report.proofs.Lines.{lined}
use Rattle.cpa_report.proofs.reading.line_behind.Goals as goal

pub returns-else-contains : goal.returns-else-contains
returns-else-contains c =
    let first = c.in_ok-behind.ensures.cases in
    let second = c.in_ok-strip_prefix.ensures.cases in
    let third = c.in_ok-line.ensures.cases in
    record {
      spelled =
          lined c.args.text.now (verdict_words c.args.verdict) c.in_ok-behind.behind.now
          c.in_ok-strip_prefix.field-0.now c.in_ok-line.line.now c.as_bytes.result.now
          (c.as_bytes.ensures.value ∙ c.words.ensures) first.0 first.1 second.0 second.1 third.0
          third.1;
      one = sym c.contains.ensures.value ∙ c.if-contains.false;
    }
