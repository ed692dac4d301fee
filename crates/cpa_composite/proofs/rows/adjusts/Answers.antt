use Rattle.std.proofs.Common.{ℕ, ◌<◌, map, length}
use Rattle.std.proofs.Common.{refl, sym, ap, ◌∙◌, subst, arith}
use Rattle.std.specs.List.{AllByRecursion}
use Rattle.std.proofs.lemmas.List.{length-append}
use Rattle.std.proofs.lemmas.Option.{slice_get_read, slice_get-get_or}
use Rattle.cpa_iface.specs.Meanings.{HasPlace}
use Rattle.std.proofs.Common.{get_or}
use Rattle.cpa_iface.specs.declared.merging.Pick.{Pick}
use Rattle.cpa_composite_covers.specs.lemmas.PickLaws.{within_meanings}
use Rattle.cpa_composite.proofs.Growing.{IsAt, adjust_more}
use Rattle.cpa_composite.proofs.Lifted.{have_place}
use Rattle.cpa_composite.proofs.rows.adjusts.Goals as goal

pub adjust-requires-clause-reached : goal.adjust-requires-clause-reached
adjust-requires-clause-reached g c =
    let i = c.loop-place.place in
    let count = length c.args.picks.now in
    let inside : i < count = c.loop-place-test.true in
    subst (λ (n : ℕ). AllByRecursion (HasPlace c.args.cfa.now n) c.args.reached.now)
    (sym c.in_ok-number.ensures)
    (have_place c.args.cfa.now count i c.args.reached.now inside c.requires.reached)

pub loop-place-preserved : goal.loop-place-preserved
loop-place-preserved g c =
    let meaning = g.A.Analysis.meaning in
    let at = c.loop-place in
    let i = at.place in
    let picks = c.args.picks.now in
    let handed = c.args.handed.now.items in
    let ms = map meaning handed in
    let now = map meaning at.handed.items in
    let inside : i < length picks =
    c.loop-place-test.true in
    let here : (d : Pick) → IsAt ms now picks i (get_or picks i d) = λ d. record {
      within = within_meanings meaning handed picks c.requires.picks;
      same = at.invariant.kept;
      at = slice_get-get_or picks i d inside;
    } in
    let cfa = c.args.cfa.now in
    let reached = c.args.reached.now in
    let es = c.args.elems.now in
    let ps = c.args.precisions.now in
    let e = c.index-elems-place.result in
    let p = c.index-precisions-place.result in
    let elem = slice_get_read es (length es) i e refl (omega (arith, inside, c.requires.elems.size))
    c.index-elems-place.is in
    let precision = slice_get_read ps (length ps) i p refl
    (omega (arith, inside, c.requires.precisions.size)) c.index-precisions-place.is in
    let grown = c.in_ok-push.ensures.items in
    let further = c.in_ok-push-2.ensures.items in
    let size = at.invariant.size in
    let long = at.invariant.long in
    let longer = ap length grown ∙ length-append at.after.items _ in
    let farther = ap length further ∙ length-append at.next.items _ in
    record {
      each = rw (grown, further)
          (adjust_more cfa reached ms now picks i _ es ps e p at.after.items at.next.items _ _
          (here _)
          elem precision size long
          c.in_ok-number.number c.in_ok-number.ensures c.in_ok-elem.ensures.laws at.invariant.each);
      size = omega (arith, longer, size);
      long = omega (arith, farther, long);
      kept = c.adjust.ensures.kept ∙ at.invariant.kept;
    }

pub returns-clause-laws : goal.returns-clause-laws
returns-clause-laws g c =
    let at = c.loop-place in
    let size = at.invariant.size in
    let long = at.invariant.long in
    let end = c.loop-place-test.false in
    let up = at.auto.place-end in
    (omega (arith, size, end, up), omega (arith, long, end, up), at.invariant.each)
