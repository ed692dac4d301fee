use Rattle.std.proofs.Common.{◌≡◌, ◌∙◌, ap, subst, sym, to_z-of_z}
use Rattle.std.specs.Prelude.{Some, FitsSigned}
use Rattle.std.specs.Int.{w128}
use Rattle.cpa_expr_text.proofs.WideNumbers.{read_signed}
use Rattle.cpa_expr_text.proofs.numbers.integer.Goals as goal

pub returns-in-Ok-clause-read : goal.returns-in-Ok-clause-read
returns-in-Ok-clause-read c z fits is =
    let read =
    read_signed z c.args.text.now c.parse.result fits is c.parse.ensures.value.0 in
    let same : c.in-Ok.number ≡ z = cc in
    ap Some (to_z-of_z {w = w128} (subst (FitsSigned w128) (sym same) fits) ∙ same)

pub returns-in-Err-clause-read : goal.returns-in-Err-clause-read
returns-in-Err-clause-read c z fits is =
    let read =
    read_signed z c.args.text.now c.parse.result fits is c.parse.ensures.value.0 in
    absurd (cc)
