use Rattle.std.proofs.Common.{◌≡◌, List, length, sym, ◌∙◌, subst}
use Rattle.std.proofs.lemmas.Result.{on_ok_weaker}
use Rattle.cpa_model.specs.declared.facts.Elem.{Elem}
use Rattle.cpa_iface.specs.declared.precisions.Precision.{Precision}
use Rattle.cpa_composite.specs.Components.{AreElems, ArePrecisions, IsEntryOf}
use Rattle.cpa_composite.specs.Composites.{components}
use Rattle.cpa_reached.specs.Calls.{closed}
use Rattle.cpa_engine_turn.specs.declared.work.Work.{Work}
use Rattle.cpa_engine_turn.specs.Stages.{Stage, Expands}
use Rattle.cpa_engine_turn.specs.Steps.{stage}
use Rattle.cpa_engine_turn.proofs.Shapes.{each_in}
use Rattle.cpa_engine_turn.proofs.taking.expand_taken.Goals as goal

pub expand-requires-clause-elems : goal.expand-requires-clause-elems
expand-requires-clause-elems g c =
    let cfa = c.args.cfa.now in
    let count = length (components c.args.composite.now) in
    let shape = each_in (IsEntryOf cfa count) c.args.reached.now.live c.entry-entry.result.now
    c.requires.entries.each c.entry-entry.ensures.is_in in
    subst (λ (es : List Elem). AreElems cfa count es)
    (sym (c.deref.ensures.value ∙ (c.in_ok-elems.ensures ∙ c.as_slice.ensures))) shape.elems

pub expand-requires-clause-precisions : goal.expand-requires-clause-precisions
expand-requires-clause-precisions g c =
    let cfa = c.args.cfa.now in
    let count = length (components c.args.composite.now) in
    let shape = each_in (IsEntryOf cfa count) c.args.reached.now.live c.entry-entry.result.now
    c.requires.entries.each c.entry-entry.ensures.is_in in
    subst (λ (ps : List Precision). ArePrecisions cfa count ps)
    (sym (c.deref-2.ensures.value ∙ (c.in_ok-precisions.ensures ∙ c.as_slice-2.ensures)))
    shape.precisions

pub returns-clause-works : goal.returns-clause-works
returns-clause-works g c =
    let cfa = c.args.cfa.now in
    let cs = components c.args.composite.now in
    let r = c.args.reached.now in
    let x = c.entry-entry.result.now in
    let last : Stage = stage c.expand.new.reached c.expand.new.work in
    let same_es : c.deref.result.now ≡ x.elems =
    c.deref.ensures.value ∙ (c.in_ok-elems.ensures ∙ c.as_slice.ensures) in
    let same_ps : c.deref-2.result.now ≡ x.precisions =
    c.deref-2.ensures.value ∙ (c.in_ok-precisions.ensures ∙ c.as_slice-2.ensures) in
    on_ok_weaker _
    (λ (is : c.close_turn.new.self ≡ closed c.expand.new.reached c.expand.new.work.row).
    record {
      entry = x;
      is_in = c.entry-entry.ensures.is_in;
      number = c.entry-entry.ensures.number;
      last = last;
      expands = subst (λ (w : Work). Expands cfa cs x.elems x.precisions (stage r w) last)
          c.begin-work.ensures
          (subst (λ (ps : List Precision). Expands cfa cs x.elems ps (stage r c.begin-work.result)
          last)
          same_ps
          (subst (λ (es : List Elem).
          Expands cfa cs es c.deref-2.result.now (stage r c.begin-work.result) last) same_es
          c.in_ok-expand.ensures.expands));
      closed = is;
    })
    c.close_turn.ensures.ok

pub returns-clause-ordered : goal.returns-clause-ordered
returns-clause-ordered g c =
    let numbered = c.entry-entry.ensures.numbered in
    on_ok_weaker _
    (λ (is : c.close_turn.new.self ≡ closed c.expand.new.reached c.expand.new.work.row).
    record { ascend = numbered.ascend; below = numbered.below })
    c.close_turn.ensures.ok
