-- One cell more, and all cells.
use Rattle.std.proofs.Common.{arith}
use Rattle.cpa_recheck_bounds.specs.Exact.{lows_of}
use Rattle.cpa_recheck_bounds.proofs.Tables.{more_of, all_of, lows_long, low_is}
use Rattle.cpa_recheck_bounds.proofs.exact.lows_of.Goals as goal

pub loop-place-preserved : goal.loop-place-preserved
loop-place-preserved c =
    let l = c.loop-place in
    let own = c.own_at-own.result in
    more_of (lows_of c.args.all.now.each) l.values c.push_low.new.values l.place own.lo
    (low_is c.args.all.now.each l.place own c.own_at-own.ensures) l.invariant
    c.in_ok-push_low.ensures

pub returns : goal.returns
returns c =
    let l = c.loop-place in
    let long = lows_long c.args.all.now.each in
    let count = c.count-place-end.ensures in
    all_of (lows_of c.args.all.now.each) l.values l.place (omega (arith, long, count))
    l.invariant
