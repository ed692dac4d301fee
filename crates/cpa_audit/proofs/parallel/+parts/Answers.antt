use Rattle.std.proofs.Common.{length, arith}
use Rattle.cpa_audit.proofs.Neighbours.{halves_joined}
use Rattle.cpa_audit.proofs.parallel.+parts.Goals as goal

pub check_halves-returns : goal.check_halves-returns
check_halves-returns g t c =
    halves_joined c.args.cnf.now c.args.log.now c.args.workers c.args.first c.args.middle
    (length c.args.front.now) (length c.args.back.now) c.join-a.result.0 c.join-a.result.1
    c.joined.result (omega (arith, c.requires.back.within, c.requires.halves.1)) c.requires.middle
    c.joined.ensures c.join-a.ensures.first c.join-a.ensures.second
