use Rattle.std.proofs.Common.{map}
use Rattle.std.proofs.lemmas.Option.{slice_get-get_or}
use Rattle.cpa_composite.proofs.Numbered.{places_step, places_end}
use Rattle.cpa_composite_covers.specs.lemmas.PickLaws.{within_meanings}
use Rattle.cpa_composite.proofs.keys.key_places.Goals as goal

pub loop-place-preserved : goal.loop-place-preserved
loop-place-preserved g c =
    let meaning = g.A.Analysis.meaning in
    let handed = c.args.handed.now.items in
    let picks = c.args.picks.now in
    let i = c.loop-place.place in
    places_step (map meaning handed) picks i _ c.loop-place.places.items
    c.push_key.new.places.items _ (within_meanings meaning handed picks c.requires)
    (slice_get-get_or picks i _ c.loop-place-test.true) c.in_ok-push_key.ensures
    c.loop-place.invariant

pub returns : goal.returns
returns g c =
    let meaning = g.A.Analysis.meaning in
    let handed = c.args.handed.now.items in
    let picks = c.args.picks.now in
    places_end (map meaning handed) picks c.loop-place.place c.loop-place.places.items _
    (within_meanings meaning handed picks c.requires) c.loop-place-test.false
    c.loop-place.invariant
