use Rattle.std.specs.declared.vec.Vec.{Vec}
use Rattle.std.specs.declared.alloc.Global.{Global}
use Rattle.std.proofs.Common.{◌≡◌, ◌<◌, List, [], ◌∷◌, map, length, refl, sym, ap}
use Rattle.std.proofs.Common.{◌∙◌}
use Rattle.std.proofs.Common.{subst, arith}
use Rattle.std.proofs.lemmas.Bool.{eqb-true}
use Rattle.std.proofs.lemmas.List.{length-map, length-append, map-append}
use Rattle.std.proofs.lemmas.Option.{slice_get_read, slice_get-get_or}
use Rattle.cpa_model.specs.declared.facts.Elem.{Elem}
use Rattle.cpa_composite.specs.Components.{picked}
use Rattle.std.proofs.Common.{get_or}
use Rattle.cpa_iface.specs.declared.merging.Pick.{Pick}
use Rattle.cpa_composite_covers.specs.lemmas.PickLaws.{within_meanings}
use Rattle.cpa_composite.specs.Laws.{AreAsked, EachTransfer}
use Rattle.cpa_composite.proofs.Growing.{IsAt, transfer_more, asked_ended}
use Rattle.cpa_composite.proofs.rows.transfers.Goals as goal

pub loop-place-preserved : goal.loop-place-preserved
loop-place-preserved g c =
    let meaning = g.A.Analysis.meaning in
    let at = c.loop-place in
    let i = at.place in
    let picks = c.args.picks.now in
    let handed = c.args.handed.now.items in
    let ms = map meaning handed in
    let now = map meaning at.handed.items in
    let inside : i < length picks = c.loop-place-test.true in
    let here : (d : Pick) → IsAt ms now picks i (get_or picks i d) = λ d. record {
      within = within_meanings meaning handed picks c.requires.picks;
      same = at.invariant.kept;
      at = slice_get-get_or picks i d inside;
    } in
    let es = c.args.elems.now in
    let ps = c.args.precisions.now in
    let e = c.index-elems-place.result in
    let p = c.index-precisions-place.result in
    let old = at.lists.items in
    let list = c.in_ok-list.list in
    let items : Vec Elem Global → List Elem = λ l. l.items in
    let grown = c.in_ok-push.ensures.items in
    let longer = ap length grown in
    let joined = length-append old (list ∷ []) in
    let size = at.invariant.size in
    let elem = slice_get_read es (length es) i e refl (omega (arith, inside, c.requires.elems.size))
    c.index-elems-place.is in
    let precision = slice_get_read ps (length ps) i p refl
    (omega (arith, inside, c.requires.precisions.size)) c.index-precisions-place.is in
    record {
      each = subst (EachTransfer c.args.cfa.now c.args.edge (picked ms picks) es ps)
          (sym (ap (map items) grown ∙ map-append items old (list ∷ [])))
          (transfer_more c.args.cfa.now c.args.edge ms now picks i _ es ps e p (map items old)
          list.items (here _) elem precision (length-map old items ∙ size)
          c.in_ok-list.ensures.laws
          at.invariant.each);
      size = omega (arith, longer, joined, size);
      kept = c.transfer.ensures.kept ∙ at.invariant.kept;
    }

pub returns-then-is_none-clause-each : goal.returns-then-is_none-clause-each
returns-then-is_none-clause-each g c =
    let meaning = g.A.Analysis.meaning in
    let at = c.loop-place in
    let i = at.place in
    let picks = c.args.picks.now in
    let handed = c.args.handed.now.items in
    let ms = map meaning handed in
    let now = map meaning at.handed.items in
    let inside : i < length picks = c.loop-place-test.true in
    let here : (d : Pick) → IsAt ms now picks i (get_or picks i d) = λ d. record {
      within = within_meanings meaning handed picks c.requires.picks;
      same = at.invariant.kept;
      at = slice_get-get_or picks i d inside;
    } in
    let es = c.args.elems.now in
    let ps = c.args.precisions.now in
    let e = c.index-elems-place.result in
    let p = c.index-precisions-place.result in
    let old = at.lists.items in
    let list = c.in_ok-list.list in
    let items : Vec Elem Global → List Elem = λ l. l.items in
    let grown = c.in_ok-push.ensures.items in
    let size = at.invariant.size in
    let elem = slice_get_read es (length es) i e refl (omega (arith, inside, c.requires.elems.size))
    c.index-elems-place.is in
    let precision = slice_get_read ps (length ps) i p refl
    (omega (arith, inside, c.requires.precisions.size)) c.index-precisions-place.is in
    subst (EachTransfer c.args.cfa.now c.args.edge (picked ms picks) es ps)
    (sym (ap (map items) grown ∙ map-append items old (list ∷ [])))
    (transfer_more c.args.cfa.now c.args.edge ms now picks i _ es ps e p (map items old)
    list.items (here _) elem precision (length-map old items ∙ size)
    c.in_ok-list.ensures.laws
    at.invariant.each)

pub returns-then-is_none-clause-asked : goal.returns-then-is_none-clause-asked
returns-then-is_none-clause-asked g c =
    let at = c.loop-place in
    let picks = c.args.picks.now in
    let inside : at.place < length picks = c.loop-place-test.true in
    let old = at.lists.items in
    let list = c.in_ok-list.list in
    let items : Vec Elem Global → List Elem = λ l. l.items in
    let size = at.invariant.size in
    let many = length-map old items in
    let zero : list.len ≡ 0 =
    eqb-true list.len 0 (sym c.is_empty-is_none.ensures ∙ c.if-is_none.true) in
    let none : length list.items ≡ 0 = omega (arith, zero, list.ok.0) in
    subst (AreAsked (length picks))
    (sym (ap (map items) c.in_ok-push.ensures.items ∙ map-append items old (list ∷ [])))
    (asked_ended (length picks) (map items old) list.items (omega (arith, inside, many, size))
    none)
