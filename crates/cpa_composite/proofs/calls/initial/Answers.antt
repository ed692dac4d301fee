use Rattle.std.specs.declared.vec.Vec.{Vec}
use Rattle.std.specs.declared.alloc.Global.{Global}
use Rattle.std.proofs.Common.{map, sym, ◌∙◌}
use Rattle.std.proofs.lemmas.Result.{IfOk-weaker}
use Rattle.cpa_model.specs.declared.facts.Elem.{Elem}
use Rattle.cpa_iface.specs.declared.precisions.Precision.{Precision}
use Rattle.cpa_composite.specs.Components.{picked}
use Rattle.cpa_composite.proofs.Picking.{picked_length}
use Rattle.cpa_composite_covers.specs.lemmas.PickLaws.{within_meanings}
use Rattle.cpa_composite.proofs.Lifted.{initial_row}
use Rattle.cpa_composite.proofs.calls.initial.Goals as goal

pub returns-clause-laws : goal.returns-clause-laws
returns-clause-laws g c =
    let meaning = g.A.Analysis.meaning in
    let handed = c.args.handed.now.items in
    let ms = map meaning handed in
    let picks = c.args.picks.now in
    let many = picked_length ms picks (within_meanings meaning handed picks c.requires.picks) in
    IfOk-weaker _ _ _ (λ (pair : Vec Elem Global × Vec Precision Global) h.
    initial_row (picked ms picks) c.args.cfa.now c.args.settings.now pair.0.items pair.1.items
    (h.0 ∙ sym many) (h.1 ∙ sym many) h.2)
    c.initial.ensures.laws
