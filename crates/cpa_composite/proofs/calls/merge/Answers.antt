use Rattle.std.proofs.Common.{ℕ, map, sym, ◌∙◌, subst}
use Rattle.std.specs.declared.vec.Vec.{Vec}
use Rattle.std.specs.declared.alloc.Global.{Global}
use Rattle.std.proofs.Common.{List}
use Rattle.std.proofs.lemmas.Option.{IfSome_then}
use Rattle.cpa_model.specs.declared.facts.Elem.{Elem}
use Rattle.cpa_composite.specs.Components.{picked, AreElems, ArePrecisions}
use Rattle.cpa_composite.specs.Laws.{MergedRow, AgreeOnSep, WidenCovers, EachMerged}
use Rattle.cpa_composite.proofs.Picking.{picked_length}
use Rattle.cpa_composite_covers.specs.lemmas.PickLaws.{within_meanings}
use Rattle.cpa_composite.proofs.Compared.{agree_means, agree_fails}
use Rattle.cpa_composite.proofs.Lifted.{merged_row, widen_covers, if_none}
use Rattle.cpa_composite.proofs.calls.merge.Goals as goal

pub merges-requires-clause-new : goal.merges-requires-clause-new
merges-requires-clause-new g c =
    let meaning = g.A.Analysis.meaning in
    let handed = c.args.handed.now.items in
    let ms = map meaning handed in
    let picks = c.args.picks.now in
    let many = picked_length ms picks (within_meanings meaning handed picks c.requires.picks) in
    subst (λ (n : ℕ). AreElems c.args.cfa.now n c.args.new.now) many c.requires.new

pub merges-requires-clause-old : goal.merges-requires-clause-old
merges-requires-clause-old g c =
    let meaning = g.A.Analysis.meaning in
    let handed = c.args.handed.now.items in
    let ms = map meaning handed in
    let picks = c.args.picks.now in
    let many = picked_length ms picks (within_meanings meaning handed picks c.requires.picks) in
    subst (λ (n : ℕ). AreElems c.args.cfa.now n c.args.old.now) many c.requires.old

pub merges-requires-clause-precisions : goal.merges-requires-clause-precisions
merges-requires-clause-precisions g c =
    let meaning = g.A.Analysis.meaning in
    let handed = c.args.handed.now.items in
    let ms = map meaning handed in
    let picks = c.args.picks.now in
    let many = picked_length ms picks (within_meanings meaning handed picks c.requires.picks) in
    subst (λ (n : ℕ). ArePrecisions c.args.cfa.now n c.args.precisions.now) many
    c.requires.precisions

pub returns-then-not-agree-clause-none : goal.returns-then-not-agree-clause-none
returns-then-not-agree-clause-none g c =
    let meaning = g.A.Analysis.meaning in
    let handed = c.args.handed.now.items in
    let ms = map meaning handed in
    let picks = c.args.picks.now in
    let many = picked_length ms picks (within_meanings meaning handed picks c.requires.picks) in
    let within = within_meanings meaning handed picks c.requires.picks in
    λ all. absurd (agree_fails ms picks within c.args.new.now c.args.old.now
    (sym c.if-not-agree.ensures) all)

pub returns-clause-some : goal.returns-clause-some
returns-clause-some g c =
    let meaning = g.A.Analysis.meaning in
    let handed = c.args.handed.now.items in
    let ms = map meaning handed in
    let picks = c.args.picks.now in
    let many = picked_length ms picks (within_meanings meaning handed picks c.requires.picks) in
    let within = within_meanings meaning handed picks c.requires.picks in
    let cs = picked ms picks in
    let cfa = c.args.cfa.now in
    let new = c.args.new.now in
    let old = c.args.old.now in
    let ps = c.args.precisions.now in
    let merged = c.in_ok-merged.merged in
    IfSome_then _ c.other_row.ensures.some (λ (row : Vec Elem Global) h.
    subst (λ (l : List Elem). MergedRow cs cfa new old ps l) (sym h.0)
    (merged_row cs cfa new old ps merged.items c.requires.new.size c.requires.old.size
    c.requires.precisions.size (c.in_ok-merged.ensures.size ∙ sym many) c.in_ok-merged.ensures.each
    (agree_means ms picks within new old (sym c.if-not-agree.ensures)) h.1))

pub returns-clause-none : goal.returns-clause-none
returns-clause-none g c =
    let meaning = g.A.Analysis.meaning in
    let handed = c.args.handed.now.items in
    let ms = map meaning handed in
    let picks = c.args.picks.now in
    let many = picked_length ms picks (within_meanings meaning handed picks c.requires.picks) in
    let cs = picked ms picks in
    let merged = c.in_ok-merged.merged in
    let cfa = c.args.cfa.now in
    if_none {Q = AgreeOnSep cs c.args.new.now c.args.old.now
    → WidenCovers cs c.args.new.now c.args.old.now} _ c.other_row.ensures.none (λ same. λ agreed.
    widen_covers cs cfa c.args.new.now c.args.old.now c.args.precisions.now merged.items
    c.requires.new.size c.requires.precisions.size c.in_ok-merged.ensures.each same)

pub returns-then-not-agree-clause-stays : goal.returns-then-not-agree-clause-stays
returns-then-not-agree-clause-stays g c =
    let meaning = g.A.Analysis.meaning in
    let handed = c.args.handed.now.items in
    let ms = map meaning handed in
    let picks = c.args.picks.now in
    let within = within_meanings meaning handed picks c.requires.picks in
    λ all. absurd (agree_fails ms picks within c.args.new.now c.args.old.now
    (sym c.if-not-agree.ensures) all)

pub returns-clause-stays : goal.returns-clause-stays
returns-clause-stays g c =
    let cs = picked (map g.A.Analysis.meaning c.args.handed.now.items) c.args.picks.now in
    let cfa = c.args.cfa.now in
    let new = c.args.new.now in
    let old = c.args.old.now in
    let ps = c.args.precisions.now in
    if_none {Q = AgreeOnSep cs new old → EachMerged cfa cs new old ps old} _
    c.other_row.ensures.none (λ same. λ agreed.
    subst (λ (l : List Elem). EachMerged cfa cs new old ps l) same c.in_ok-merged.ensures.each)
