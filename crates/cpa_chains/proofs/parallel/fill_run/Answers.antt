use Rattle.std.proofs.Common.{rules}
use Rattle.cpa_chains.proofs.Halving.{none_filled, all_filled}
use Rattle.cpa_chains.proofs.parallel.fill_run.Goals as goal

pub loop-i-init : goal.loop-i-init
loop-i-init c =
    none_filled c.args.table.now c.args.lines.now c.args.rooms.now c.requires.rooms

pub returns : goal.returns
returns c =
    all_filled c.args.table.now c.args.lines.now c.loop-i.rooms c.loop-i.i (search rules)
    c.loop-i.invariant
