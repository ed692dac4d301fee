-- What is written so far is kept, and once all is written the bounds are those by way of row k.
use Rattle.std.proofs.Common.{◌≡◌, ◌+◌, ◌*◌, ap, arith}
use Rattle.cpa_zone_bounds.specs.lemmas.Fillings.{by_way_at, by_way_all}
use Rattle.cpa_zone_bounds.specs.lemmas.Kept.{by_way_kept}
use Rattle.cpa_zone_bounds.proofs.closing.pass_through.Goals as goal

pub shorten-requires-clause-kept : goal.shorten-requires-clause-kept
shorten-requires-clause-kept c =
    by_way_kept c.args.rows c.args.k c.args.most.now c.loop-j.most
    (c.loop-i.i * c.args.rows + c.loop-j.j) c.requires.square c.requires.row c.requires.kept
    c.requires.back c.loop-j.invariant

pub returns : goal.returns
returns c =
    let last = c.loop-i-test.false in
    let most = c.loop-i.auto.i-end in
    let e : c.loop-i.i ≡ c.args.rows = omega (arith, last, most) in
    by_way_all c.args.rows c.args.k c.args.most.now c.loop-i.most c.requires.square
    (by_way_at c.args.rows c.args.k c.args.most.now c.loop-i.most (c.loop-i.i * c.args.rows)
    (c.args.rows * c.args.rows) (ap (λ a. a * c.args.rows) e) c.loop-i.invariant)
