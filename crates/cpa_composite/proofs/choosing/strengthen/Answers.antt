use Rattle.std.proofs.Common.{◌<◌, map, length, refl, sym}
use Rattle.std.proofs.Common.{◌∙◌}
use Rattle.std.proofs.Common.{arith}
use Rattle.std.proofs.lemmas.Option.{slice_get_read, slice_get-get_or}
use Rattle.cpa_composite.specs.Components.{picked}
use Rattle.cpa_composite_covers.specs.lemmas.PickLaws.{within_meanings}
use Rattle.cpa_iface.specs.declared.merging.Pick.{Pick}
use Rattle.std.proofs.Common.{get_or}
use Rattle.cpa_composite.proofs.Picking.{picked_length}
use Rattle.cpa_composite.proofs.Growing.{IsAt}
use Rattle.cpa_composite.proofs.Strengthening.{halfway_none, halfway_more, halfway_stops}
use Rattle.cpa_composite.proofs.Strengthening.{halfway_whole}
use Rattle.cpa_composite.proofs.choosing.strengthen.Goals as goal

pub loop-place-init : goal.loop-place-init
loop-place-init g c =
    let meaning = g.A.Analysis.meaning in
    let picks = c.args.picks.now in
    let handed = c.args.handed.now.items in
    let ms = map meaning handed in
    let many = picked_length ms picks (within_meanings meaning handed picks c.requires.picks) in
    let choice = c.args.choice.items in
    record {
      half = halfway_none c.args.cfa.now (picked ms picks) choice c.args.precisions.now
          (c.requires.choice.size ∙ sym many) c.requires.choice.shaped;
      kept = refl;
    }

pub strengthen_at-requires-clause-place : goal.strengthen_at-requires-clause-place
strengthen_at-requires-clause-place g c =
    let meaning = g.A.Analysis.meaning in
    let picks = c.args.picks.now in
    let handed = c.args.handed.now.items in
    let ms = map meaning handed in
    let many = picked_length ms picks (within_meanings meaning handed picks c.requires.picks) in
    let each = c.loop-place.invariant.half.each in
    omega (arith, c.loop-place-test.true, many, each)

pub returns-then-stuck-clause-laws : goal.returns-then-stuck-clause-laws
returns-then-stuck-clause-laws g c =
    let meaning = g.A.Analysis.meaning in
    let at = c.loop-place in
    let i = at.place in
    let picks = c.args.picks.now in
    let handed = c.args.handed.now.items in
    let ms = map meaning handed in
    let now = map meaning at.handed.items in
    let inside : i < length picks = c.loop-place-test.true in
    let here : (d : Pick) → IsAt ms now picks i (get_or picks i d) = λ d. record {
      within = within_meanings meaning handed picks c.requires.picks;
      same = at.invariant.kept;
      at = slice_get-get_or picks i d inside;
    } in
    let many = picked_length ms picks (within_meanings meaning handed picks c.requires.picks) in
    let cfa = c.args.cfa.now in
    let ps = c.args.precisions.now in
    let p = c.index-precisions-place.result in
    let precision = slice_get_read ps (length ps) i p refl
    (omega (arith, inside, c.requires.precisions.size)) c.index-precisions-place.is in
    halfway_stops cfa ms now picks i _ c.args.choice.items ps p at.row.items
    c.strengthen_at.new.row.items (here _) precision (omega (arith, inside, many))
    c.in_ok-stuck.stuck c.if-stuck.true c.in_ok-stuck.ensures.laws
    at.invariant.half

pub loop-place-preserved : goal.loop-place-preserved
loop-place-preserved g c =
    let meaning = g.A.Analysis.meaning in
    let at = c.loop-place in
    let i = at.place in
    let picks = c.args.picks.now in
    let handed = c.args.handed.now.items in
    let ms = map meaning handed in
    let now = map meaning at.handed.items in
    let inside : i < length picks = c.loop-place-test.true in
    let here : (d : Pick) → IsAt ms now picks i (get_or picks i d) = λ d. record {
      within = within_meanings meaning handed picks c.requires.picks;
      same = at.invariant.kept;
      at = slice_get-get_or picks i d inside;
    } in
    let many = picked_length ms picks (within_meanings meaning handed picks c.requires.picks) in
    let cfa = c.args.cfa.now in
    let ps = c.args.precisions.now in
    let p = c.index-precisions-place.result in
    let precision = slice_get_read ps (length ps) i p refl
    (omega (arith, inside, c.requires.precisions.size)) c.index-precisions-place.is in
    record {
      half = halfway_more cfa ms now picks i _ c.args.choice.items ps p at.row.items
          c.strengthen_at.new.row.items (here _) precision (omega (arith, inside, many))
          c.in_ok-stuck.stuck c.if-stuck.false c.in_ok-stuck.ensures.laws
          at.invariant.half;
      kept = c.strengthen_at.ensures.kept ∙ at.invariant.kept;
    }

pub returns-clause-laws : goal.returns-clause-laws
returns-clause-laws g c =
    let meaning = g.A.Analysis.meaning in
    let at = c.loop-place in
    let picks = c.args.picks.now in
    let handed = c.args.handed.now.items in
    let ms = map meaning handed in
    let many = picked_length ms picks (within_meanings meaning handed picks c.requires.picks) in
    halfway_whole c.args.cfa.now (picked ms picks) c.args.choice.items c.args.precisions.now
    at.place
    at.row.items (omega (arith, c.loop-place-test.false, many))
    at.invariant.half
