-- One predicate more.
use Rattle.cpa_predicate.proofs.TransferLemmas.{one_more, one_spent}
use Rattle.cpa_predicate.proofs.transfer.truths_after.Goals as goal

pub loop-p-preserved : goal.loop-p-preserved
loop-p-preserved c =
    let l = c.loop-p in
    one_more c.args.asker.now l.asker c.truth_after.new.asker c.args.cfa.now
    c.args.elem.now c.args.edge.now c.args.preds.now l.p-index c.p-item.result l.truths _
    c.in_ok-truth.truth c.loop-p-test.true c.p-item.is l.invariant c.in_ok-truth.ensures.truth
    c.in_ok-truth.ensures.spends c.in_ok-push.ensures.ok

pub returns-in_err-truth-clause-spends : goal.returns-in_err-truth-clause-spends
returns-in_err-truth-clause-spends c =
    let l = c.loop-p in
    one_spent c.args.asker.now l.asker c.truth_after.new.asker c.args.cfa.now c.args.elem.now
    c.args.edge.now c.args.preds.now l.p-index c.p-item.result c.loop-p-test.true c.p-item.is
    l.invariant.1 c.truth_after.ensures.spends

pub returns-in_err-push-clause-spends : goal.returns-in_err-push-clause-spends
returns-in_err-push-clause-spends c =
    let l = c.loop-p in
    one_spent c.args.asker.now l.asker c.truth_after.new.asker c.args.cfa.now c.args.elem.now
    c.args.edge.now c.args.preds.now l.p-index c.p-item.result c.loop-p-test.true c.p-item.is
    l.invariant.1 c.truth_after.ensures.spends
