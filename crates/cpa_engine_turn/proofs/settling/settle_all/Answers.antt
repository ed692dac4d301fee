use Rattle.std.specs.declared.vec.Vec.{Vec}
use Rattle.std.specs.declared.alloc.Global.{Global}
use Rattle.std.proofs.Common.{◌≡◌, List, Some, map, length, take, refl, sym, ap, ◌∙◌, subst}
use Rattle.std.proofs.Common.{arith}
use Rattle.std.specs.Option.{option_map}
use Rattle.std.specs.List.{slice_get}
use Rattle.std.proofs.lemmas.List.{length-map}
use Rattle.std.proofs.lemmas.Option.{slice_get_read, slice_get-map}
use Rattle.cpa_model.specs.declared.facts.Elem.{Elem}
use Rattle.cpa_composite.specs.Components.{Component, AreElems, ArePrecisions}
use Rattle.cpa_composite.specs.Composites.{components}
use Rattle.cpa_engine_turn.specs.Stages.{Stage, Settles, SettlesAll}
use Rattle.cpa_engine_turn.specs.Steps.{stage}
use Rattle.cpa_engine_turn.proofs.Places.{each_at, take_push, take_whole}
use Rattle.cpa_engine_turn.proofs.Progress.{ordered_along, current_along, fits_on}
use Rattle.cpa_engine_turn.proofs.Shapes.{entries_on}
use Rattle.cpa_engine_turn.proofs.Working.{all_settles_lead, settles_push}
use Rattle.cpa_engine_turn.proofs.settling.settle_all.Goals as goal

pub loop-successor-init : goal.loop-successor-init
loop-successor-init g c = record { settles = refl; kept = refl }

pub settle-requires-clause-entries : goal.settle-requires-clause-entries
settle-requires-clause-entries g c =
    let items : Vec Elem Global → List Elem = λ l. l.items in
    let cfa = c.args.cfa.now in
    let at = c.loop-successor in
    let cs = components c.args.composite.now in
    let a : Stage = stage c.args.reached.now c.args.work.now in
    let b : Stage = stage at.reached at.work in
    entries_on cfa cs (components at.composite) a b at.invariant.kept
    (all_settles_lead cfa cs c.args.precisions.now c.args.edge
    (take at.successor-index (map items c.args.successors.now)) a b c.requires.edge
    c.requires.entries c.requires.ordered c.requires.places at.invariant.settles) c.requires.entries

pub settle-requires-clause-places : goal.settle-requires-clause-places
settle-requires-clause-places g c =
    let items : Vec Elem Global → List Elem = λ l. l.items in
    let cfa = c.args.cfa.now in
    let at = c.loop-successor in
    let cs = components c.args.composite.now in
    let a : Stage = stage c.args.reached.now c.args.work.now in
    let b : Stage = stage at.reached at.work in
    fits_on cfa cs (components at.composite) a b at.invariant.kept
    (all_settles_lead cfa cs c.args.precisions.now c.args.edge
    (take at.successor-index (map items c.args.successors.now)) a b c.requires.edge
    c.requires.entries c.requires.ordered c.requires.places at.invariant.settles)
    c.requires.places

pub settle-requires-clause-ordered : goal.settle-requires-clause-ordered
settle-requires-clause-ordered g c =
    let items : Vec Elem Global → List Elem = λ l. l.items in
    let cfa = c.args.cfa.now in
    let at = c.loop-successor in
    let cs = components c.args.composite.now in
    let a : Stage = stage c.args.reached.now c.args.work.now in
    let b : Stage = stage at.reached at.work in
    ordered_along cfa cs a b
    (all_settles_lead cfa cs c.args.precisions.now c.args.edge
    (take at.successor-index (map items c.args.successors.now)) a b c.requires.edge
    c.requires.entries c.requires.ordered c.requires.places at.invariant.settles) c.requires.ordered

pub settle-requires-clause-current : goal.settle-requires-clause-current
settle-requires-clause-current g c =
    let items : Vec Elem Global → List Elem = λ l. l.items in
    let cfa = c.args.cfa.now in
    let at = c.loop-successor in
    let cs = components c.args.composite.now in
    let a : Stage = stage c.args.reached.now c.args.work.now in
    let b : Stage = stage at.reached at.work in
    current_along cfa cs a b
    (all_settles_lead cfa cs c.args.precisions.now c.args.edge
    (take at.successor-index (map items c.args.successors.now)) a b c.requires.edge
    c.requires.entries c.requires.ordered c.requires.places at.invariant.settles) c.requires.ordered
    c.requires.current

pub settle-requires-clause-successor : goal.settle-requires-clause-successor
settle-requires-clause-successor g c =
    let items : Vec Elem Global → List Elem = λ l. l.items in
    let at = c.loop-successor in
    let rows = c.args.successors.now in
    let i = at.successor-index in
    let x = c.successor-item.result in
    let cfa = c.args.cfa.now in
    let there : slice_get (map items rows) i ≡ Some x.items =
    slice_get-map items rows i
    ∙ ap (option_map items) (slice_get_read rows (length rows) i x refl
    c.loop-successor-test.true c.successor-item.is) in
    subst (AreElems cfa (length (components at.composite))) (sym c.deref.ensures.value)
    (subst (λ (cs : List Component). AreElems cfa (length cs) x.items) (sym at.invariant.kept)
    (each_at (AreElems cfa (length (components c.args.composite.now))) (map items rows)
    c.requires.successors i x.items there))

pub settle-requires-clause-precisions : goal.settle-requires-clause-precisions
settle-requires-clause-precisions g c =
    subst (λ (cs : List Component). ArePrecisions c.args.cfa.now (length cs) c.args.precisions.now)
    (sym c.loop-successor.invariant.kept) c.requires.precisions

pub loop-successor-preserved : goal.loop-successor-preserved
loop-successor-preserved g c =
    let items : Vec Elem Global → List Elem = λ l. l.items in
    let cfa = c.args.cfa.now in
    let ps = c.args.precisions.now in
    let k = c.args.edge in
    let at = c.loop-successor in
    let rows = c.args.successors.now in
    let i = at.successor-index in
    let x = c.successor-item.result in
    let there : slice_get (map items rows) i ≡ Some x.items =
    slice_get-map items rows i
    ∙ ap (option_map items) (slice_get_read rows (length rows) i x refl
    c.loop-successor-test.true c.successor-item.is) in
    let cs = components c.args.composite.now in
    let a : Stage = stage c.args.reached.now c.args.work.now in
    let b : Stage = stage at.reached at.work in
    let m : Stage = stage c.settle.new.reached c.settle.new.work in
    let one : Settles cfa cs ps k x.items b m =
    subst (λ (row : List Elem). Settles cfa cs ps k row b m) c.deref.ensures.value
    (subst (λ (ds : List Component). Settles cfa ds ps k c.deref.result.now b m) at.invariant.kept
    c.in_ok-settle.ensures.settles) in
    record {
      settles = subst (λ (done : List (List Elem)). SettlesAll cfa cs ps k done a m)
          (sym (take_push (map items rows) i x.items there))
          (settles_push cfa cs ps k (take i (map items rows)) x.items a b m at.invariant.settles
          one);
      kept = c.settle.ensures.kept ∙ at.invariant.kept;
    }

pub returns-clause-settles : goal.returns-clause-settles
returns-clause-settles g c =
    let items : Vec Elem Global → List Elem = λ l. l.items in
    let at = c.loop-successor in
    let rows = c.args.successors.now in
    let a : Stage = stage c.args.reached.now c.args.work.now in
    let b : Stage = stage at.reached at.work in
    let end = c.loop-successor-test.false in
    let size : length (map items rows) ≡ length rows = length-map rows items in
    subst (λ (done : List (List Elem)). SettlesAll c.args.cfa.now (components c.args.composite.now)
    c.args.precisions.now c.args.edge done a b)
    (take_whole (map items rows) at.successor-index (omega (arith, end, size))) at.invariant.settles
