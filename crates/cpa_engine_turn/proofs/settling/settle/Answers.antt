use Rattle.std.proofs.Common.{◌≡◌, ℕ, List, length, refl, sym, ap, ◌∙◌, subst}
use Rattle.std.proofs.lemmas.Result.{on_ok_weaker}
use Rattle.cpa_model.specs.declared.facts.Elem.{Elem}
use Rattle.cpa_iface.specs.declared.entries.Entry.{Entry}
use Rattle.cpa_composite.specs.Components.{Component}
use Rattle.cpa_composite.specs.Composites.{components}
use Rattle.cpa_composite.specs.Laws.{AdjustedRow}
use Rattle.cpa_reached_key.specs.Rows.{picked}
use Rattle.cpa_reached.specs.Entries.{ReachedSet, numbers}
use Rattle.cpa_reached.specs.Passed.{LeavesOut}
use Rattle.cpa_engine_turn.specs.Stages.{Stage, ComparesAll, under, fellows, first_cover}
use Rattle.cpa_engine_turn.specs.Stages.{covered_or_added}
use Rattle.cpa_engine_turn.specs.Steps.{stage, IsOff}
use Rattle.cpa_engine_turn.proofs.Passing.{mark_under}
use Rattle.cpa_engine_turn.proofs.Progress.{current_along, places_along}
use Rattle.cpa_engine_turn.proofs.Settled.{compares_under}
use Rattle.cpa_engine_turn.proofs.Working.{all_compares_lead}
use Rattle.cpa_engine_turn.proofs.settling.settle.Goals as goal

pub watched-mark-requires : goal.watched-mark-requires
watched-mark-requires g c =
    ap (λ (es : List Elem). length es) c.deref-2.ensures.value
    ∙ (c.in_ok-elems.ensures.laws.elems.size
    ∙ ap (λ (cs : List Component). length cs) (sym c.adjust.ensures.kept))

pub compare-requires-clause-left : goal.compare-requires-clause-left
compare-requires-clause-left g c =
    let cs = components c.adjust.new.self in
    let es = c.deref-4.result.now in
    let r = c.args.reached.now in
    let by = mark_under cs cs c.deref-2.result.now es c.watched-mark.result refl
    (c.deref-2.ensures.value ∙ sym c.deref-4.ensures.value) c.watched-mark.ensures in
    subst (λ (ns : List ℕ). LeavesOut (IsOff cs es r.live)
    (numbers (under r c.in_ok-key.key.elems)) ns) (sym c.deref-3.ensures.value)
    (c.in_ok-left.ensures cs es by)

pub cover_or_add-requires-clause-left : goal.cover_or_add-requires-clause-left
cover_or_add-requires-clause-left g c =
    let cs = components c.compare.new.composite in
    let es = c.in_ok-elems.elems.items in
    let key = c.in_ok-key.key.elems in
    let r = c.compare.new.reached in
    let by = mark_under (components c.adjust.new.self) cs c.deref-2.result.now es
    c.watched-mark.result (sym c.compare.ensures.kept) c.deref-2.ensures.value
    c.watched-mark.ensures in
    subst (λ (ns : List ℕ). LeavesOut (IsOff cs es r.live) (numbers (under r key)) ns)
    (sym c.deref-6.ensures.value)
    (c.in_ok-later.ensures cs es by
    (λ same.
    subst (λ (s : ReachedSet). LeavesOut (IsOff cs es s.live) (numbers (under s key))
    c.in_ok-left.left.items) (sym (c.in_ok-is_changed.ensures.same same))
    (c.in_ok-left.ensures cs es by)))

pub cover_or_add-requires-clause-current : goal.cover_or_add-requires-clause-current
cover_or_add-requires-clause-current g c =
    let cfa = c.args.cfa.now in
    let cs = components c.args.composite.now in
    let es = c.in_ok-elems.elems.items in
    let qs = c.in_ok-elems.precisions.items in
    let ns = numbers (under c.args.reached.now c.in_ok-key.key.elems) in
    let a : Stage = stage c.args.reached.now c.args.work.now in
    let b : Stage = stage c.compare.new.reached c.compare.new.work in
    current_along cfa cs a b
    (all_compares_lead cfa cs es qs ns a b c.in_ok-elems.ensures.laws.elems
    c.in_ok-elems.ensures.laws.precisions c.requires.entries
    (compares_under cfa (components c.adjust.new.self) cs c.deref-4.result.now es
    c.deref-5.result.now qs ns a b c.adjust.ensures.kept c.deref-4.ensures.value
    c.deref-5.ensures.value c.in_ok-is_changed.ensures.compares))
    c.requires.ordered c.requires.current

pub returns-clause-settles : goal.returns-clause-settles
returns-clause-settles g c =
    let cfa = c.args.cfa.now in
    let cs = components c.args.composite.now in
    let ds = components c.compare.new.composite in
    let es = c.in_ok-elems.elems.items in
    let qs = c.in_ok-elems.precisions.items in
    let r = c.args.reached.now in
    let key = c.in_ok-key.key.elems in
    let a : Stage = stage r c.args.work.now in
    let b : Stage = stage c.compare.new.reached c.compare.new.work in
    let m : Stage = stage c.cover_or_add.new.reached c.cover_or_add.new.work in
    let all : ComparesAll cfa cs es qs (numbers (under r key)) a b =
    compares_under cfa (components c.adjust.new.self) cs c.deref-4.result.now es
    c.deref-5.result.now qs (numbers (under r key)) a b c.adjust.ensures.kept
    c.deref-4.ensures.value c.deref-5.ensures.value c.in_ok-is_changed.ensures.compares in
    let is_key : key ≡ picked r.places es =
    c.in_ok-key.ensures ∙ ap (picked r.places) c.deref.ensures.value in
    let places : b.reached.places ≡ r.places =
    places_along cfa cs a b (all_compares_lead cfa cs es qs (numbers (under r key)) a b
    c.in_ok-elems.ensures.laws.elems c.in_ok-elems.ensures.laws.precisions c.requires.entries
    all) in
    let still : under b.reached key ≡ fellows b.reached es =
    ap (under b.reached) (is_key ∙ ap (λ ps. picked ps es) (sym places)) in
    on_ok_weaker _
    (λ (is : m ≡ covered_or_added es qs c.args.edge (first_cover ds es (under b.reached key)) b).
    record {
      elems = es;
      precisions = qs;
      adjusted = subst (λ (xs : List Entry). AdjustedRow cs cfa c.args.successor.now
          c.args.precisions.now xs es qs) c.live-live.ensures.live c.in_ok-elems.ensures.laws;
      compared = b;
      compares = subst (λ (k : List Elem). ComparesAll cfa cs es qs (numbers (under r k)) a b)
          is_key all;
      is = is
          ∙ (ap (λ (bs : List Component). covered_or_added es qs c.args.edge
          (first_cover bs es (under b.reached key)) b)
          (c.compare.ensures.kept ∙ c.adjust.ensures.kept)
          ∙ ap (λ (xs : List Entry). covered_or_added es qs c.args.edge (first_cover cs es xs) b)
          still);
    })
    c.cover_or_add.ensures
