use Rattle.std.proofs.Common.{◌<◌, [], ◌∷◌, map, length, refl, sym, ap}
use Rattle.std.proofs.Common.{◌∙◌}
use Rattle.std.proofs.Common.{subst, arith}
use Rattle.std.proofs.lemmas.List.{length-append}
use Rattle.std.proofs.lemmas.Option.{slice_get_read, slice_get-get_or}
use Rattle.cpa_composite.specs.Components.{picked}
use Rattle.std.proofs.Common.{get_or}
use Rattle.cpa_iface.specs.declared.merging.Pick.{Pick}
use Rattle.cpa_composite_covers.specs.lemmas.PickLaws.{within_meanings}
use Rattle.cpa_composite.specs.Laws.{EachMerged}
use Rattle.cpa_composite.proofs.Growing.{IsAt, merge_more}
use Rattle.cpa_composite.proofs.rows.merges.Goals as goal

pub loop-place-preserved : goal.loop-place-preserved
loop-place-preserved g c =
    let meaning = g.A.Analysis.meaning in
    let at = c.loop-place in
    let i = at.place in
    let picks = c.args.picks.now in
    let handed = c.args.handed.now.items in
    let ms = map meaning handed in
    let now = map meaning at.handed.items in
    let inside : i < length picks = c.loop-place-test.true in
    let here : (d : Pick) → IsAt ms now picks i (get_or picks i d) = λ d. record {
      within = within_meanings meaning handed picks c.requires.picks;
      same = at.invariant.kept;
      at = slice_get-get_or picks i d inside;
    } in
    let new = c.args.new.now in
    let old = c.args.old.now in
    let ps = c.args.precisions.now in
    let e = c.index-new-place.result in
    let f = c.index-old-place.result in
    let p = c.index-precisions-place.result in
    let so_far = at.merged.items in
    let merged = c.in_ok-merge.field-0 in
    let grown = c.in_ok-push.ensures.items in
    let longer = ap length grown in
    let joined = length-append so_far (merged ∷ []) in
    let size = at.invariant.size in
    let elem = slice_get_read new (length new) i e refl (omega (arith, inside, c.requires.new.size))
    c.index-new-place.is in
    let fellow = slice_get_read old (length old) i f refl
    (omega (arith, inside, c.requires.old.size)) c.index-old-place.is in
    let precision = slice_get_read ps (length ps) i p refl
    (omega (arith, inside, c.requires.precisions.size)) c.index-precisions-place.is in
    record {
      each = subst (EachMerged c.args.cfa.now (picked ms picks) new old ps) (sym grown)
          (merge_more c.args.cfa.now ms now picks i _ new old ps e f p so_far merged (here _)
          elem fellow
          precision size c.in_ok-merge.ensures.laws at.invariant.each);
      size = omega (arith, longer, joined, size);
      kept = c.merge.ensures.kept ∙ at.invariant.kept;
    }
