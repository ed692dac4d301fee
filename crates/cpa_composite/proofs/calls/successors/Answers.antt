use Rattle.std.specs.declared.vec.Vec.{Vec}
use Rattle.std.specs.declared.alloc.Global.{Global}
use Rattle.std.proofs.Common.{◌≡◌, ◌≤◌, ℕ, List, [], map, length, Some, sym, subst, ⊎_elim}
use Rattle.std.proofs.Common.{arith}
use Rattle.std.specs.List.{AllByRecursion, slice_get}
use Rattle.std.proofs.lemmas.List.{length-map}
use Rattle.std.proofs.lemmas.Result.{IfOk-weaker}
use Rattle.cpa_model.specs.declared.facts.Elem.{Elem}
use Rattle.cpa_iface.specs.Meanings.{Meaning}
use Rattle.cpa_composite.specs.Components.{picked, AreElems, ArePrecisions}
use Rattle.cpa_composite.specs.Laws.{AreAsked, choices, EachStrengthened}
use Rattle.cpa_composite.proofs.Picking.{picked_length}
use Rattle.cpa_composite_covers.specs.lemmas.PickLaws.{within_meanings}
use Rattle.cpa_composite.proofs.Picking.{within_kept}
use Rattle.cpa_composite.proofs.Covering.{at_most, lists_shaped, choices_shaped}
use Rattle.cpa_composite.proofs.Covering.{successor_rows}
use Rattle.cpa_composite.proofs.Following.{choices_none}
use Rattle.cpa_composite.proofs.calls.successors.Goals as goal

pub transfers-requires-clause-elems : goal.transfers-requires-clause-elems
transfers-requires-clause-elems g c =
    let meaning = g.A.Analysis.meaning in
    let handed = c.args.handed.now.items in
    let ms = map meaning handed in
    let picks = c.args.picks.now in
    let many = picked_length ms picks (within_meanings meaning handed picks c.requires.picks) in
    subst (λ (n : ℕ). AreElems c.args.cfa.now n c.args.elems.now) many c.requires.elems

pub transfers-requires-clause-precisions : goal.transfers-requires-clause-precisions
transfers-requires-clause-precisions g c =
    let meaning = g.A.Analysis.meaning in
    let handed = c.args.handed.now.items in
    let ms = map meaning handed in
    let picks = c.args.picks.now in
    let many = picked_length ms picks (within_meanings meaning handed picks c.requires.picks) in
    subst (λ (n : ℕ). ArePrecisions c.args.cfa.now n c.args.precisions.now) many
    c.requires.precisions

pub strengthen_all-requires-clause-picks : goal.strengthen_all-requires-clause-picks
strengthen_all-requires-clause-picks g c =
    within_kept g.A.Analysis.meaning c.args.handed.now.items c.transfers.new.handed.items
    c.args.picks.now c.transfers.ensures.kept c.requires.picks

pub strengthen_all-requires-clause-choices : goal.strengthen_all-requires-clause-choices
strengthen_all-requires-clause-choices g c =
    let meaning = g.A.Analysis.meaning in
    let handed = c.args.handed.now.items in
    let ms = map meaning handed in
    let picks = c.args.picks.now in
    let many = picked_length ms picks (within_meanings meaning handed picks c.requires.picks) in
    let cfa = c.args.cfa.now in
    let items : Vec Elem Global → List Elem = λ l. l.items in
    let lists : List (List Elem) = map items c.in_ok-lists.lists.items in
    let asked : AreAsked (length picks) lists = c.in_ok-lists.ensures.asked in
    let most = at_most (length picks) lists asked in
    let chosen : map items c.in_ok-choices.choices.items ≡ choices lists =
    c.in_ok-choices.ensures in
    let shaped = choices_shaped cfa lists
    (lists_shaped cfa c.args.edge (picked ms picks) c.args.elems.now c.args.precisions.now lists
    c.requires.elems.size c.requires.precisions.size (omega (arith, most, many))
    c.in_ok-lists.ensures.each) in
    subst (λ (l : List (List Elem)). AllByRecursion (AreElems cfa (length picks)) l) (sym chosen)
    (⊎_elim
    (λ (all : length lists ≡ length picks).
    subst (λ (n : ℕ). AllByRecursion (AreElems cfa n) (choices lists)) all shaped)
    (λ (some : (length lists ≤ length picks) × ((i : ℕ) × (slice_get lists i ≡ Some []))).
    subst (AllByRecursion (AreElems cfa (length picks)))
    (sym (choices_none lists some.1.0 some.1.1)) tt)
    asked)

pub strengthen_all-requires-clause-precisions : goal.strengthen_all-requires-clause-precisions
strengthen_all-requires-clause-precisions g c =
    let meaning = g.A.Analysis.meaning in
    let handed = c.args.handed.now.items in
    let ms = map meaning handed in
    let picks = c.args.picks.now in
    let many = picked_length ms picks (within_meanings meaning handed picks c.requires.picks) in
    subst (λ (n : ℕ). ArePrecisions c.args.cfa.now n c.args.precisions.now) many
    c.requires.precisions

pub returns-clause-laws : goal.returns-clause-laws
returns-clause-laws g c =
    let meaning = g.A.Analysis.meaning in
    let handed = c.args.handed.now.items in
    let ms = map meaning handed in
    let picks = c.args.picks.now in
    let many = picked_length ms picks (within_meanings meaning handed picks c.requires.picks) in
    let cfa = c.args.cfa.now in
    let items : Vec Elem Global → List Elem = λ l. l.items in
    let lists : List (List Elem) = map items c.in_ok-lists.lists.items in
    let asked : AreAsked (length picks) lists = c.in_ok-lists.ensures.asked in
    let chosen : map items c.in_ok-choices.choices.items ≡ choices lists =
    c.in_ok-choices.ensures in
    let cs = picked ms picks in
    let ps = c.args.precisions.now in
    IfOk-weaker _ _ _ (λ (rows : Vec (Vec Elem Global) Global) made.
    successor_rows cs cfa c.args.edge c.args.elems.now ps lists (map items rows.items)
    c.requires.elems.size c.requires.precisions.size
    (subst (λ (n : ℕ). AreAsked n lists) (sym many) asked) c.in_ok-lists.ensures.each
    (subst (λ (l : List (List Elem)). EachStrengthened cfa cs ps l (map items rows.items)) chosen
    (subst (λ (ns : List Meaning). EachStrengthened cfa (picked ns picks) ps
    (map items c.in_ok-choices.choices.items) (map items rows.items)) c.transfers.ensures.kept
    made)))
    c.strengthen_all.ensures.laws
