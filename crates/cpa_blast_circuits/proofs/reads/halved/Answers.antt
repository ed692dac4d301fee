-- One word, or none, stays.
use Rattle.std.proofs.Common.{arith}
use Rattle.cpa_blast_circuits.proofs.Halves.{stays}
use Rattle.cpa_blast_circuits.proofs.reads.halved.Goals as goal

pub returns-then-len-le1-clause-built : goal.returns-then-len-le1-clause-built
returns-then-len-le1-clause-built c =
    stays c.args.net.now c.args.bit c.args.words.items
    (omega (arith, c.if-len-le1.true, c.len.ensures, c.args.words.ok.0))
