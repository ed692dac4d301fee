use Rattle.std.proofs.Common.{◌∙◌, [], ap, Some}
use Rattle.json.specs.Lex.{tokens}
use Rattle.cpa_report_json.specs.Fits.{IsLow}
use Rattle.cpa_report.proofs.Plainness.{line_tokens}
use Rattle.cpa_report.proofs.telling.guessed.Goals as goal

pub returns-in-Ok-clause-read : goal.returns-in-Ok-clause-read
returns-in-Ok-clause-read c r fit verdict is =
    let took =
    c.in-Ok.ensures.took r [] fit verdict
    (c.in_ok-reader.ensures.ok ∙ ap tokens is ∙ line_tokens IsLow r fit) in
    ap Some took.0

pub returns-in-Err-Other-clause-read : goal.returns-in-Err-Other-clause-read
returns-in-Err-Other-clause-read c r fit verdict is =
    let took =
    c.in-Err-Other.ensures.took r [] fit verdict
    (c.in_ok-reader.ensures.ok ∙ ap tokens is ∙ line_tokens IsLow r fit) in
    absurd (cc)
