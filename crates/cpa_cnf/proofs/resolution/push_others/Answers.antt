use Rattle.std.proofs.Common.{sym}
use Rattle.std.proofs.lemmas.Bool.{eqb-true, eqb-false, not-true, not-false}
use Rattle.cpa_cnf.specs.lemmas.Members.{has-kept, has-left_out}
use Rattle.cpa_cnf.proofs.resolution.push_others.Goals as goal
use Rattle.cpa_cnf.proofs.resolution.push_others.Goals.{then-ne+in_ok-push, else-ne}

pub loop-literal-preserved : goal.loop-literal-preserved
loop-literal-preserved c x =
    let old = c.args.left.now.items in
    let left = c.loop-literal.left.items in
    let xs = c.args.literals.now in
    let i = c.loop-literal.literal-index in
    let literal = c.literal-item.result in
    let out = c.args.out in
    elim c.if-ne.branch [
      | then-ne+in_ok-push w ↦
          rw (w.left-is, w.in_ok-push.ensures.items)
          (has-kept old left xs i literal out x c.loop-literal-test.true c.literal-item.is
          (eqb-false literal out (not-true _ (sym w.if-ne.ensures)))
          (c.loop-literal.invariant x))
      | else-ne w ↦
          rw w.left-is
          (has-left_out old left xs i literal out x c.loop-literal-test.true c.literal-item.is
          (eqb-true literal out (not-false _ (sym w.if-ne.ensures)))
          (c.loop-literal.invariant x))
    ]
