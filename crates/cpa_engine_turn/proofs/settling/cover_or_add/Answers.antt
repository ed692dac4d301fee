use Rattle.std.proofs.Common.{◌≡◌, List, sym, subst}
use Rattle.std.proofs.lemmas.Result.{on_ok_weaker}
use Rattle.cpa_composite.specs.Composites.{components}
use Rattle.cpa_model.specs.declared.facts.Elem.{Elem}
use Rattle.cpa_reached.specs.Entries.{numbers}
use Rattle.cpa_reached.specs.Passed.{LeavesOut}
use Rattle.cpa_reached.specs.Calls.{used}
use Rattle.cpa_engine_turn.specs.Stages.{under}
use Rattle.cpa_engine_turn.specs.Steps.{IsOff, with_added}
use Rattle.cpa_engine_turn.proofs.Fellows.{live_cover}
use Rattle.cpa_engine_turn.proofs.Settled.{found_in, covered_is, added_is}
use Rattle.cpa_engine_turn.proofs.settling.cover_or_add.Goals as goal

pub covering-requires : goal.covering-requires
covering-requires g c =
    let cs = components c.args.composite.now in
    let r = c.args.reached.now in
    subst (λ (es : List Elem). LeavesOut (IsOff cs es r.live)
    (numbers (under r c.args.key.now.elems)) c.args.left.now) (sym c.deref.ensures.value)
    c.requires.left

pub note_use-requires-clause-by : goal.note_use-requires-clause-by
note_use-requires-clause-by g c =
    let cs = components c.args.composite.now in
    let es = c.args.successor.items in
    let r = c.args.reached.now in
    let key = c.args.key.now.elems in
    live_cover cs r key es c.in-Some.by
    (found_in cs es c.deref.result.now (under r key) c.in-Some.by c.covering.result
    c.deref.ensures.value c.covering.ensures c.in-Some.is)

pub returns-in-Some : goal.returns-in-Some
returns-in-Some g c =
    let cs = components c.args.composite.now in
    let r = c.args.reached.now in
    on_ok_weaker _
    (λ (is : c.note_use.new.self ≡ used r c.args.work.now.current c.in-Some.by).
    covered_is cs r c.note_use.new.self c.args.work.now c.in-Some.by c.args.successor.items
    c.args.precisions.items c.args.edge c.covering.result c.deref.result.now
    (under r c.args.key.now.elems) c.deref.ensures.value c.covering.ensures c.in-Some.is is)
    c.note_use.ensures.ok

pub returns-in_ok-number-in-None : goal.returns-in_ok-number-in-None
returns-in_ok-number-in-None g c =
    let cs = components c.args.composite.now in
    let r = c.args.reached.now in
    on_ok_weaker _
    (λ (is : c.note_added.new.self ≡ with_added c.in_ok-number-in-None.number c.args.work.now).
    added_is cs r c.add.new.self c.args.work.now c.note_added.new.self
    c.in_ok-number-in-None.number c.args.successor.items c.args.precisions.items c.args.edge
    c.covering.result c.deref.result.now (under r c.args.key.now.elems) c.deref.ensures.value
    c.covering.ensures c.in-None.is c.in_ok-number-in-None.ensures.number
    c.in_ok-number-in-None.ensures.ok is)
    c.note_added.ensures
