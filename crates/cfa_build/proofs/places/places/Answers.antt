use Rattle.std.proofs.Common.{arith}
use Rattle.cfa_build.proofs.Known.{all_known}
use Rattle.cfa_build.proofs.places.places.Goals as goal

pub returns : goal.returns
returns c =
    all_known c.args.program.now c.requires.trees c.loop-n.n c.loop-n.places.items
    (omega (arith, c.len-count.ensures)) c.loop-n.invariant
