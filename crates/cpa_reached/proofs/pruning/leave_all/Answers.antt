use Rattle.std.proofs.Common.{arith}
use Rattle.cpa_reached.proofs.Leaving.{leaves_all, leaves_more, leaves_none}
use Rattle.cpa_reached.proofs.pruning.leave_all.Goals as goal

pub loop-place-init : goal.loop-place-init
loop-place-init c = λ places xs index keys.
    leaves_none places xs c.args.index.now.entries index

pub loop-place-preserved : goal.loop-place-preserved
loop-place-preserved c = λ places xs index keys.
    let l = c.loop-place in
    leaves_more places xs c.args.gone.now c.args.keys.now l.place c.index-keys-place.result
    l.index.entries c.leave.new.index.entries
    c.loop-place-test.true c.index-keys-place.is
    (λ row. c.leave.ensures row) keys (l.invariant places xs index keys)

pub returns : goal.returns
returns c = λ places xs index keys.
    let l = c.loop-place in
    leaves_all places xs c.args.gone.now l.place l.index.entries
    (omega (arith, c.loop-place-test.false))
    (l.invariant places xs index keys)
