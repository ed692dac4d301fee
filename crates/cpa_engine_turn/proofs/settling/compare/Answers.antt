use Rattle.std.proofs.Common.{◌≡◌, ℕ, ◌+◌, true, false, List, length, get_or, drop, refl}
use Rattle.std.proofs.Common.{sym, ◌∙◌, arith, subst}
use Rattle.std.proofs.lemmas.List.{drop_more, drop_all}
use Rattle.cpa_composite.specs.Components.{Component, AreElems, ArePrecisions}
use Rattle.cpa_composite.specs.Composites.{components}
use Rattle.cpa_reached.specs.Entries.{numbers}
use Rattle.cpa_engine_turn.specs.Stages.{Stage, Compares, under}
use Rattle.cpa_engine_turn.specs.Steps.{stage}
use Rattle.cpa_engine_turn.proofs.Looking.{ComparesSo, ComparesNext, compares_first, compares_next}
use Rattle.cpa_engine_turn.proofs.Looking.{compares_then, compared_all}
use Rattle.cpa_engine_turn.proofs.Places.{left_there}
use Rattle.cpa_engine_turn.proofs.Progress.{fits_on}
use Rattle.cpa_engine_turn.proofs.Shapes.{entries_on}
use Rattle.cpa_engine_turn.proofs.Working.{all_compares_lead}
use Rattle.cpa_engine_turn.proofs.settling.compare.Goals as goal
use Rattle.cpa_engine_turn.proofs.settling.compare.Goals.{then-branch, else-branch}

pub loop-number-init : goal.loop-number-init
loop-number-init g c = record {
  so = compares_first c.args.cfa.now (components c.args.composite.now) c.args.successor.now
      c.args.precisions.now c.args._key.now.elems c.args.reached.now c.args.work.now
      c.args.left.now c.requires.left;
  same = λ _. refl;
  kept = refl;
}

pub merge_into-requires-clause-entries : goal.merge_into-requires-clause-entries
merge_into-requires-clause-entries g c =
    let at = c.loop-number in
    let cfa = c.args.cfa.now in
    let cs = components c.args.composite.now in
    let a : Stage = stage c.args.reached.now c.args.work.now in
    let b : Stage = stage at.reached at.work in
    entries_on cfa cs (components at.composite) a b at.invariant.kept
    (all_compares_lead cfa cs c.args.successor.now c.args.precisions.now at.invariant.so.done a b
    c.requires.successor c.requires.precisions c.requires.entries at.invariant.so.compares)
    c.requires.entries

pub merge_into-requires-clause-places : goal.merge_into-requires-clause-places
merge_into-requires-clause-places g c =
    let at = c.loop-number in
    let cfa = c.args.cfa.now in
    let cs = components c.args.composite.now in
    let a : Stage = stage c.args.reached.now c.args.work.now in
    let b : Stage = stage at.reached at.work in
    fits_on cfa cs (components at.composite) a b at.invariant.kept
    (all_compares_lead cfa cs c.args.successor.now c.args.precisions.now at.invariant.so.done a b
    c.requires.successor c.requires.precisions c.requires.entries at.invariant.so.compares)
    c.requires.places

pub merge_into-requires-clause-live : goal.merge_into-requires-clause-live
merge_into-requires-clause-live g c =
    let at = c.loop-number in
    let cfa = c.args.cfa.now in
    let cs = components c.args.composite.now in
    let es = c.args.successor.now in
    let ps = c.args.precisions.now in
    let key = c.args._key.now.elems in
    let ns = c.args.left.now in
    let i = at.number-index in
    let n = get_or ns i 0 in
    (compares_next cfa cs es ps key c.args.reached.now at.reached c.args.work.now at.work n
    (drop (i + 1) ns) c.requires.ordered
    (subst (λ (l : List ℕ). ComparesSo cfa cs es ps key c.args.reached.now at.reached
    c.args.work.now at.work l) (drop_more ns i 0 c.loop-number-test.true) at.invariant.so)).there

pub merge_into-requires-clause-successor : goal.merge_into-requires-clause-successor
merge_into-requires-clause-successor g c =
    subst (λ (cs : List Component). AreElems c.args.cfa.now (length cs) c.args.successor.now)
    (sym c.loop-number.invariant.kept) c.requires.successor

pub merge_into-requires-clause-precisions : goal.merge_into-requires-clause-precisions
merge_into-requires-clause-precisions g c =
    subst (λ (cs : List Component). ArePrecisions c.args.cfa.now (length cs) c.args.precisions.now)
    (sym c.loop-number.invariant.kept) c.requires.precisions

pub loop-number-preserved : goal.loop-number-preserved
loop-number-preserved g c =
    let at = c.loop-number in
    let cfa = c.args.cfa.now in
    let cs = components c.args.composite.now in
    let es = c.args.successor.now in
    let ps = c.args.precisions.now in
    let key = c.args._key.now.elems in
    let ns = c.args.left.now in
    let i = at.number-index in
    let n = get_or ns i 0 in
    let b : Stage = stage at.reached at.work in
    let m : Stage = stage c.merge_into.new.reached c.merge_into.new.work in
    let next : ComparesNext cfa cs es ps key c.args.reached.now at.reached c.args.work.now at.work n
    (drop (i + 1) ns) =
    compares_next cfa cs es ps key c.args.reached.now at.reached c.args.work.now at.work n
    (drop (i + 1) ns) c.requires.ordered
    (subst (λ (l : List ℕ). ComparesSo cfa cs es ps key c.args.reached.now at.reached
    c.args.work.now at.work l) (drop_more ns i 0 c.loop-number-test.true) at.invariant.so) in
    let one : Compares cfa cs es ps n b m =
    subst (λ (ds : List Component). Compares cfa ds es ps n b m) at.invariant.kept
    c.in_ok-merge_into.ensures.compares in
    record {
      so = compares_then cfa cs es ps key c.args.reached.now at.reached c.merge_into.new.reached
          c.args.work.now at.work c.merge_into.new.work n (drop (i + 1) ns) next one
          (c.in_ok-merge_into.ensures.moves key next.place
          (left_there (numbers (under at.reached key)) next.place n next.behind next.at))
          c.in_ok-merge_into.ensures.stays;
      same = elim c.if-branch.branch [
        | then-branch w ↦ λ is. absurd (let wrong : true ≡ false = sym w.is_changed-is ∙ is in cc)
        | else-branch w ↦ λ is. c.in_ok-merge_into.ensures.same w.if-branch.false
            ∙ at.invariant.same (sym w.is_changed-is ∙ is)
      ];
      kept = c.merge_into.ensures.kept ∙ at.invariant.kept;
    }

pub returns-clause-compares : goal.returns-clause-compares
returns-clause-compares g c =
    let at = c.loop-number in
    let cfa = c.args.cfa.now in
    let cs = components c.args.composite.now in
    let es = c.args.successor.now in
    let ps = c.args.precisions.now in
    let key = c.args._key.now.elems in
    let end = c.loop-number-test.false in
    compared_all cfa cs es ps key c.args.reached.now at.reached c.args.work.now at.work
    c.requires.ordered
    (subst (λ (l : List ℕ). ComparesSo cfa cs es ps key c.args.reached.now at.reached
    c.args.work.now at.work l) (drop_all at.number-index c.args.left.now (omega (arith, end)))
    at.invariant.so)
