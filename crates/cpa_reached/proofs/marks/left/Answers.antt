use Rattle.std.proofs.Common.{ℕ, List, get_or, take, sym, subst}
use Rattle.std.proofs.lemmas.List.{take_more}
use Rattle.cpa_reached.specs.Marks.{DiffersAt}
use Rattle.cpa_reached.specs.Passed.{LeavesOut}
use Rattle.cpa_reached.specs.lemmas.PassedLaws.{passed_more, left_more}
use Rattle.cpa_reached.proofs.marks.left.Goals as goal
use Rattle.cpa_reached.proofs.marks.left.Goals.{then-not-differs_at+in_ok-push}
use Rattle.cpa_reached.proofs.marks.left.Goals.{else-not-differs_at}

pub loop-number-preserved : goal.loop-number-preserved
loop-number-preserved c =
    let reason : ℕ → Type 0 = DiffersAt c.args.mark c.args.marks.now in
    let ns = c.args.numbers.now in
    let i = c.loop-number.number-index in
    let n = get_or ns i 0 in
    let ms = c.loop-number.left.items in
    subst (λ (l : List ℕ). LeavesOut reason l c.if-not-differs_at.left.items)
    (sym (take_more ns i 0 c.loop-number-test.true))
    (elim c.if-not-differs_at.branch [
      | then-not-differs_at+in_ok-push w ↦ rw (w.left-is, w.in_ok-push.ensures.items)
          (left_more reason (take i ns) ms n c.loop-number.invariant)
      | else-not-differs_at w ↦ rw w.left-is
          (passed_more reason (take i ns) ms n c.loop-number.invariant
          (c.differs_at.ensures w.if-not-differs_at.false))
    ])
