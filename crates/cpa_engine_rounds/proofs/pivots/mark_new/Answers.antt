use Rattle.std.proofs.Common.{◌∙◌, ◌||◌, ◌&&◌, ℕ, ap, sym, length, take, ◌≤◌}
use Rattle.std.proofs.Common.{subst}
use Rattle.std.specs.Prelude.{nat_lt}
use Rattle.cpa_query.specs.Queries.{is_marked}
use Rattle.cpa_engine_rounds.specs.Pivots.{is_new, keeps_newly}
use Rattle.cpa_engine_rounds.proofs.Newly.{new_more, new_all, marks_more, below_both}
use Rattle.cpa_engine_rounds.proofs.pivots.mark_new.Goals as goal

pub loop-place-preserved : goal.loop-place-preserved
loop-place-preserved c =
    let l = c.loop-place in
    let cells = length c.args.marks.now in
    let p = c.index-old-place.result in
    let q = c.index-new-place.result in
    record {
      long = c.mark_newly.ensures.length ∙ l.invariant.long;
      marks = λ cell.
          marks_more (is_marked l.marks cell)
          (is_new (take l.place c.args.old.now) c.args.new.now cell)
          (keeps_newly p q cell) (nat_lt cell cells) (is_marked c.mark_newly.new.marks cell)
          (l.invariant.marks cell)
          (c.in_ok-mark_newly.ensures.marks cell
          ∙ ap (λ (n : ℕ). is_marked l.marks cell || (keeps_newly p q cell && nat_lt cell n))
          l.invariant.long)
          ∙ ap (λ b. b && nat_lt cell cells)
          (sym (new_more c.args.old.now c.args.new.now l.place p q cell
          (below_both (length c.args.old.now) (length c.args.new.now) l.place
          c.min-place-end.result c.min-place-end.ensures c.loop-place-test.true).0
          (below_both (length c.args.old.now) (length c.args.new.now) l.place
          c.min-place-end.result c.min-place-end.ensures c.loop-place-test.true).1
          c.index-old-place.is c.index-new-place.is));
    }

pub returns-clause-marks : goal.returns-clause-marks
returns-clause-marks c = λ cell.
    c.loop-place.invariant.marks cell
    ∙ ap (λ b. b && nat_lt cell (length c.args.marks.now))
    (new_all c.args.old.now c.args.new.now c.loop-place.place cell
    (subst (λ (n : ℕ). n ≤ c.loop-place.place) c.min-place-end.ensures c.loop-place-test.false))
