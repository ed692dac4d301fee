use Rattle.std.proofs.Common.{rules, length}
use Rattle.cpa_audit.proofs.Neighbours.{whole}
use Rattle.cpa_audit.proofs.parallel.first_bad.Goals as goal

pub returns : goal.returns
returns g c =
    whole c.args.cnf.now c.args.log.now c.args.workers (length c.deref_mut.result.now)
    c.check_parts.result c.requires.0 (search rules) c.check_parts.ensures
