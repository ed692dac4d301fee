use Rattle.std.specs.declared.vec.Vec.{Vec}
use Rattle.std.specs.declared.alloc.Global.{Global}
use Rattle.std.proofs.Common.{◌≡◌, List, [], ◌∷◌, ◌++◌, Some, map, length, refl, ap, ◌∙◌}
use Rattle.std.specs.Option.{option_map}
use Rattle.std.specs.List.{slice_get}
use Rattle.std.proofs.lemmas.List.{map-append}
use Rattle.std.proofs.lemmas.Option.{slice_get_read, slice_get-map}
use Rattle.cpa_model.specs.declared.facts.Elem.{Elem}
use Rattle.cpa_composite.proofs.Chosen.{rows_more}
use Rattle.cpa_composite.proofs.choosing.push_each.Goals as goal

pub loop-row-preserved : goal.loop-row-preserved
loop-row-preserved c =
    let items : Vec Elem Global → List Elem = λ l. l.items in
    let at = c.loop-row in
    let i = at.row-index in
    let later = c.args.later.now in
    let x = c.row-item.result in
    let there : slice_get (map items later) i ≡ Some x.items =
    slice_get-map items later i
    ∙ ap (option_map items) (slice_get_read later (length later) i x refl c.loop-row-test.true
    c.row-item.is) in
    let made = c.in_ok-with_first.field-0 in
    rows_more c.args.first.now (map items at.rows.items) (map items c.push.new.self.items)
    (map items c.args.rows.now.items) (map items later) i x.items there at.invariant
    (ap (map items) c.in_ok-push.ensures.items
    ∙ (map-append items at.rows.items (made ∷ [])
    ∙ ap (λ (row : List Elem). map items at.rows.items ++ row ∷ [])
    (c.in_ok-with_first.ensures ∙ ap (λ (l : List Elem). c.args.first.now ∷ l)
    c.deref.ensures.value)))
