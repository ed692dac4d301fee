-- There is room for what is wanted, so the second of two lists cannot fail to come behind.
use Rattle.std.proofs.Common.{arith}
use Rattle.cpa_edgeform.proofs.parts.join.Goals as goal

pub returns-in_err-append-2-clause-err : goal.returns-in_err-append-2-clause-err
returns-in_err-append-2-clause-err c =
    absurd (omega (arith, c.in_err-append-2.ensures.full, c.in_ok-reserve.ensures.ok))
