use Rattle.std.specs.declared.vec.Vec.{Vec}
use Rattle.std.specs.declared.alloc.Global.{Global}
use Rattle.std.proofs.Common.{List, ◌∷◌, map, length, refl}
use Rattle.std.proofs.lemmas.Option.{slice_get_read}
use Rattle.cpa_model.specs.declared.facts.Elem.{Elem}
use Rattle.cpa_composite.proofs.Chosen.{firsts_more}
use Rattle.cpa_composite.proofs.choosing.before_each.Goals as goal

pub loop-first-preserved : goal.loop-first-preserved
loop-first-preserved c =
    let items : Vec Elem Global → List Elem = λ l. l.items in
    let at = c.loop-first in
    let firsts = c.args.firsts.now in
    let e = c.first-item.result in
    firsts_more (λ (d : Elem). map (λ (row : List Elem). d ∷ row) (map items c.args.later.now))
    firsts at.first-index e (map items at.rows.items) (map items c.push_each.new.rows.items)
    (slice_get_read firsts (length firsts) at.first-index e refl c.loop-first-test.true
    c.first-item.is) at.invariant c.in_ok-push_each.ensures
