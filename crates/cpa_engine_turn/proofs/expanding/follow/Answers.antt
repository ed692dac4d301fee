use Rattle.std.specs.declared.vec.Vec.{Vec}
use Rattle.std.specs.declared.alloc.Global.{Global}
use Rattle.std.proofs.Common.{List, map, length, sym, subst}
use Rattle.std.specs.List.{AllByRecursion}
use Rattle.std.proofs.lemmas.Result.{on_ok_weaker}
use Rattle.cpa_model.specs.declared.facts.Elem.{Elem}
use Rattle.cpa_composite.specs.Components.{Component, AreElems, ArePrecisions}
use Rattle.cpa_composite.specs.Composites.{components}
use Rattle.cpa_engine_turn.specs.Stages.{Stage, SettlesAll}
use Rattle.cpa_engine_turn.specs.Steps.{stage}
use Rattle.cpa_engine_turn.specs.Turns.{AreEntries}
use Rattle.cpa_engine_turn.proofs.expanding.follow.Goals as goal

pub settle_all-requires-clause-entries : goal.settle_all-requires-clause-entries
settle_all-requires-clause-entries g c =
    subst (λ (cs : List Component). AreEntries c.args.cfa.now (length cs) c.args.reached.now.live)
    (sym c.successors.ensures.kept) c.requires.entries

pub settle_all-requires-clause-successors : goal.settle_all-requires-clause-successors
settle_all-requires-clause-successors g c =
    let items : Vec Elem Global → List Elem = λ l. l.items in
    let cfa = c.args.cfa.now in
    subst (λ (rows : List (Vec Elem Global)).
    AllByRecursion (AreElems cfa (length (components c.successors.new.self))) (map items rows))
    (sym c.deref.ensures.value)
    (subst (λ (cs : List Component).
    AllByRecursion (AreElems cfa (length cs)) (map items c.in_ok-rows.rows.items))
    (sym c.successors.ensures.kept) c.in_ok-rows.ensures.laws.elems)

pub settle_all-requires-clause-precisions : goal.settle_all-requires-clause-precisions
settle_all-requires-clause-precisions g c =
    subst (λ (cs : List Component). ArePrecisions c.args.cfa.now (length cs) c.args.precisions.now)
    (sym c.successors.ensures.kept) c.requires.precisions

pub returns-clause-follows : goal.returns-clause-follows
returns-clause-follows g c =
    let items : Vec Elem Global → List Elem = λ l. l.items in
    let cfa = c.args.cfa.now in
    let cs = components c.args.composite.now in
    let ds = components c.successors.new.self in
    let ps = c.args.precisions.now in
    let k = c.args.edge in
    let a : Stage = stage c.args.reached.now c.args.work.now in
    let b : Stage = stage c.settle_all.new.reached c.settle_all.new.work in
    on_ok_weaker _
    (λ (settles : SettlesAll cfa ds ps k (map items c.deref.result.now) a b).
    record {
      rows = map items c.in_ok-rows.rows.items;
      successors = c.in_ok-rows.ensures.laws;
      settles = subst (λ (rows : List (Vec Elem Global)). SettlesAll cfa cs ps k (map items rows) a
          b)
          c.deref.ensures.value
          (subst (λ (bs : List Component). SettlesAll cfa bs ps k (map items c.deref.result.now) a
          b)
          c.successors.ensures.kept settles);
    })
    c.settle_all.ensures.settles
