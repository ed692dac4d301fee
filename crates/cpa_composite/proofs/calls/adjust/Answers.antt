use Rattle.std.specs.declared.vec.Vec.{Vec}
use Rattle.std.specs.declared.alloc.Global.{Global}
use Rattle.std.proofs.Common.{ℕ, map, sym, ◌∙◌, subst}
use Rattle.std.specs.List.{AllByRecursion}
use Rattle.std.proofs.lemmas.Result.{IfOk-weaker}
use Rattle.cpa_model.specs.declared.facts.Elem.{Elem}
use Rattle.cpa_iface.specs.declared.precisions.Precision.{Precision}
use Rattle.cpa_composite.specs.Components.{picked, AreElems, ArePrecisions, IsEntryOf}
use Rattle.cpa_composite.proofs.Picking.{picked_length}
use Rattle.cpa_composite_covers.specs.lemmas.PickLaws.{within_meanings}
use Rattle.cpa_composite.proofs.Lifted.{adjusted_row}
use Rattle.cpa_composite.proofs.calls.adjust.Goals as goal

pub adjusts-requires-clause-elems : goal.adjusts-requires-clause-elems
adjusts-requires-clause-elems g c =
    let meaning = g.A.Analysis.meaning in
    let handed = c.args.handed.now.items in
    let ms = map meaning handed in
    let picks = c.args.picks.now in
    let many = picked_length ms picks (within_meanings meaning handed picks c.requires.picks) in
    subst (λ (n : ℕ). AreElems c.args.cfa.now n c.args.elems.now) many c.requires.elems

pub adjusts-requires-clause-precisions : goal.adjusts-requires-clause-precisions
adjusts-requires-clause-precisions g c =
    let meaning = g.A.Analysis.meaning in
    let handed = c.args.handed.now.items in
    let ms = map meaning handed in
    let picks = c.args.picks.now in
    let many = picked_length ms picks (within_meanings meaning handed picks c.requires.picks) in
    subst (λ (n : ℕ). ArePrecisions c.args.cfa.now n c.args.precisions.now) many
    c.requires.precisions

pub adjusts-requires-clause-reached : goal.adjusts-requires-clause-reached
adjusts-requires-clause-reached g c =
    let meaning = g.A.Analysis.meaning in
    let handed = c.args.handed.now.items in
    let ms = map meaning handed in
    let picks = c.args.picks.now in
    let many = picked_length ms picks (within_meanings meaning handed picks c.requires.picks) in
    subst (λ (n : ℕ). AllByRecursion (IsEntryOf c.args.cfa.now n) c.args.reached.now) many
    c.requires.reached

pub returns-clause-laws : goal.returns-clause-laws
returns-clause-laws g c =
    let meaning = g.A.Analysis.meaning in
    let handed = c.args.handed.now.items in
    let ms = map meaning handed in
    let picks = c.args.picks.now in
    let many = picked_length ms picks (within_meanings meaning handed picks c.requires.picks) in
    IfOk-weaker _ _ _ (λ (pair : Vec Elem Global × Vec Precision Global) h.
    adjusted_row (picked ms picks) c.args.cfa.now c.args.elems.now c.args.precisions.now
    c.args.reached.now pair.0.items pair.1.items c.requires.elems.size c.requires.precisions.size
    (h.0 ∙ sym many) (h.1 ∙ sym many) h.2)
    c.adjusts.ensures.laws
