-- One cell more, and all cells.
use Rattle.std.proofs.Common.{◌≡◌, ◌+◌, ◌-◌, true, refl, arith, length}
use Rattle.cpa_interval.proofs.KnownLemmas.{known_inside, says_more, says_all}
use Rattle.cpa_interval.proofs.cells.push_all.Goals as goal

pub cell_at-requires : goal.cell_at-requires
cell_at-requires c =
    known_inside (length c.args.cells.now) (c.loop-place.place - 1) c.args.known.now
    c.known_at-it.result c.requires.order c.known_at-it.ensures

pub loop-place-preserved : goal.loop-place-preserved
loop-place-preserved c =
    let place = c.loop-place.place in
    let next : place ≡ (place - 1) + 1 = omega arith in
    says_more (λ _. true) c.args.cells.now c.args.known.now place c.args.facts.now
    c.loop-place.facts
    c.push_fact.new.facts c.known_at-it.result c.cell_at.result.now true (place - 1) next
    c.known_at-it.ensures c.cell_at.ensures refl c.in_ok-push_fact.ensures
    c.loop-place.invariant

pub returns : goal.returns
returns c =
    let place = c.loop-place.place in
    let none : place ≡ 0 = omega arith in
    says_all (λ _. true) c.args.cells.now c.args.known.now place c.args.facts.now c.loop-place.facts
    c.requires.order none c.loop-place.invariant
