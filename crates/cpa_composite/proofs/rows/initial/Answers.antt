use Rattle.std.proofs.Common.{map, length}
use Rattle.std.proofs.Common.{ap, ◌∙◌, arith}
use Rattle.std.proofs.lemmas.List.{length-append}
use Rattle.std.proofs.lemmas.Option.{slice_get-get_or}
use Rattle.std.proofs.Common.{get_or}
use Rattle.cpa_iface.specs.declared.merging.Pick.{Pick}
use Rattle.cpa_composite_covers.specs.lemmas.PickLaws.{within_meanings}
use Rattle.cpa_composite.proofs.Growing.{IsAt, initial_more}
use Rattle.cpa_composite.proofs.rows.initial.Goals as goal

pub loop-pick-preserved : goal.loop-pick-preserved
loop-pick-preserved g c =
    let meaning = g.A.Analysis.meaning in
    let at = c.loop-pick in
    let i = at.pick-index in
    let picks = c.args.picks.now in
    let handed = c.args.handed.now.items in
    let ms = map meaning handed in
    let now = map meaning at.handed.items in
    let here : (d : Pick) → IsAt ms now picks i (get_or picks i d) = λ d. record {
      within = within_meanings meaning handed picks c.requires.picks;
      same = at.invariant.kept;
      at = slice_get-get_or picks i d c.loop-pick-test.true;
    } in
    let cfa = c.args.cfa.now in
    let settings = c.args.settings.now in
    let grown = c.in_ok-push.ensures.items in
    let further = c.in_ok-push-2.ensures.items in
    let size = at.invariant.size in
    let long = at.invariant.long in
    let longer = ap length grown ∙ length-append at.elems.items _ in
    let farther = ap length further ∙ length-append at.precisions.items _ in
    record {
      each = rw (grown, further)
          (initial_more cfa settings ms now picks i _ at.elems.items at.precisions.items
          c.in_ok-initial.field-0 c.in_ok-first_precision.field-0 (here _) size long
          c.in_ok-initial.ensures.laws (map meaning c.initial.new.handed.items)
          c.initial.ensures.kept
          c.in_ok-first_precision.ensures.laws at.invariant.each);
      size = omega (arith, longer, size);
      long = omega (arith, farther, long);
      kept = c.first_precision.ensures.kept ∙ (c.initial.ensures.kept ∙ at.invariant.kept);
    }
