use Rattle.cpa_model.specs.Steps.{IsError}
use Rattle.std.proofs.lemmas.Bool.{iff_false}
use Rattle.std.proofs.lemmas.Result.{on_ok_weaker}
use Rattle.cfa_build.proofs.Growth.{take_number, pass_number}
use Rattle.cfa_build.proofs.errors.add_error.Goals as goal

pub returns-then-is_error : goal.returns-then-is_error
returns-then-is_error c =
    let Q = IsError c.args.program.now in
    on_ok_weaker c.push.result (λ e. rw e
    (take_number Q c.args.n c.args.errors.now c.requires.below
    (c.is_error.ensures.0 c.if-is_error.true))) c.push.ensures.ok

pub returns-else-is_error : goal.returns-else-is_error
returns-else-is_error c =
    pass_number (IsError c.args.program.now) c.args.n c.args.errors.now c.requires.below
    (iff_false c.is_error.ensures c.if-is_error.false)
