use Rattle.std.proofs.Common.{◌≡◌, refl, ◌∙◌, String, Global}
use Rattle.std.proofs.lemmas.Result.{IfOk-weaker}
use Rattle.cpa_top_jobs.specs.Lines.{placed_line, fault_line}
use Rattle.cpa_top_jobs.proofs.place.fault_line.Goals as goal

pub returns : goal.returns
returns c =
    let same : placed_line c.rule_word-word.result.now c.line_behind-line.result
    c.column_behind-column.result ≡ fault_line c.args.text.now c.args.fault =
    rw (
      c.rule_word-word.ensures,
      c.line_behind-line.ensures,
      c.column_behind-column.ensures,
      c.before-before.ensures,
    ) refl in
    IfOk-weaker c.placed_line.result _ _ (λ (s : String Global) is. is ∙ same)
    c.placed_line.ensures
