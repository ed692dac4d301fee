use Rattle.std.proofs.Common.{◌≡◌, ap, arith}
use Rattle.std.specs.Prelude.{Some}
use Rattle.std.proofs.lemmas.Fmt.{parse-decimal}
use Rattle.cpa_expr_text.proofs.numbers.large.Goals as goal

pub returns-in-Ok-clause-read : goal.returns-in-Ok-clause-read
returns-in-Ok-clause-read c n fits is =
    let read =
    parse-decimal 64 n c.args.text.now c.parse.result fits (omega arith) is
    c.parse.ensures.value.0 in
    let same : c.in-Ok.number ≡ n = cc in
    ap Some same

pub returns-in-Err-clause-read : goal.returns-in-Err-clause-read
returns-in-Err-clause-read c n fits is =
    let read =
    parse-decimal 64 n c.args.text.now c.parse.result fits (omega arith) is
    c.parse.ensures.value.0 in
    absurd (cc)
