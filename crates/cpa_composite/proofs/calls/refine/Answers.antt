use Rattle.std.proofs.Common.{ℕ, map, sym, ◌∙◌, subst}
use Rattle.std.specs.declared.vec.Vec.{Vec}
use Rattle.std.specs.declared.alloc.Global.{Global}
use Rattle.std.proofs.Common.{List}
use Rattle.std.proofs.lemmas.Option.{IfSome_then}
use Rattle.cpa_iface.specs.declared.precisions.Precision.{Precision}
use Rattle.cpa_composite.specs.Components.{picked, ArePrecisions}
use Rattle.cpa_composite.specs.Laws.{RefinedRow}
use Rattle.cpa_composite.proofs.Picking.{picked_length}
use Rattle.cpa_composite_covers.specs.lemmas.PickLaws.{within_meanings}
use Rattle.cpa_composite.proofs.Lifted.{refined_row, suggestions_stand, precisions_stay, if_none}
use Rattle.cpa_composite.proofs.calls.refine.Goals as goal

pub refines-requires-clause-precisions : goal.refines-requires-clause-precisions
refines-requires-clause-precisions g c =
    let meaning = g.A.Analysis.meaning in
    let handed = c.args.handed.now.items in
    let ms = map meaning handed in
    let picks = c.args.picks.now in
    let many = picked_length ms picks (within_meanings meaning handed picks c.requires.picks) in
    subst (λ (n : ℕ). ArePrecisions c.args.cfa.now n c.args.precisions.now) many
    c.requires.precisions

pub returns-clause-some : goal.returns-clause-some
returns-clause-some g c =
    let meaning = g.A.Analysis.meaning in
    let handed = c.args.handed.now.items in
    let ms = map meaning handed in
    let picks = c.args.picks.now in
    let many = picked_length ms picks (within_meanings meaning handed picks c.requires.picks) in
    let cs = picked ms picks in
    let refined = c.in_ok-refined.refined in
    let cfa = c.args.cfa.now in
    let path = c.args.path.now in
    let old = c.args.precisions.now in
    IfSome_then _ c.longer_row.ensures.some (λ (ps : Vec Precision Global) h.
    subst (λ (l : List Precision). RefinedRow cs cfa path old l) (sym h.0)
    (refined_row cs cfa path old refined.items c.requires.precisions.size
    (c.in_ok-refined.ensures.size ∙ sym many) c.in_ok-refined.ensures.each h.1))

pub returns-clause-none : goal.returns-clause-none
returns-clause-none g c =
    let meaning = g.A.Analysis.meaning in
    let handed = c.args.handed.now.items in
    let ms = map meaning handed in
    let picks = c.args.picks.now in
    let many = picked_length ms picks (within_meanings meaning handed picks c.requires.picks) in
    let cs = picked ms picks in
    let refined = c.in_ok-refined.refined in
    if_none _ c.longer_row.ensures.none (λ short.
    suggestions_stand cs c.args.cfa.now c.args.path.now c.args.precisions.now refined.items
    c.requires.precisions.size (c.in_ok-refined.ensures.size ∙ sym many)
    c.in_ok-refined.ensures.each short)

pub returns-clause-stays : goal.returns-clause-stays
returns-clause-stays g c =
    let meaning = g.A.Analysis.meaning in
    let handed = c.args.handed.now.items in
    let ms = map meaning handed in
    let picks = c.args.picks.now in
    let many = picked_length ms picks (within_meanings meaning handed picks c.requires.picks) in
    let cs = picked ms picks in
    let refined = c.in_ok-refined.refined in
    if_none _ c.longer_row.ensures.none (λ short.
    precisions_stay cs c.args.cfa.now c.args.path.now c.args.precisions.now refined.items
    (c.in_ok-refined.ensures.size ∙ sym many) c.in_ok-refined.ensures.each short)
