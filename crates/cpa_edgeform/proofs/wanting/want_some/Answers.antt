-- One test more.
use Rattle.std.proofs.Common.{◌∙◌, arith}
use Rattle.cpa_edgeform.proofs.Turns.{one_link}
use Rattle.cpa_edgeform.proofs.wanting.want_some.Goals as goal

pub loop-one-preserved : goal.loop-one-preserved
loop-one-preserved c =
    let l = c.loop-one in
    one_link c.args.places.now c.args.tests.now l.one-index c.one-item.result l.truth
    c.in_ok-truth-2.truth l.draft c.linked.new.draft (omega arith) c.one-item.is
    c.in_ok-truth-2.ensures.number c.in_ok-truth-2.ensures.linked
    ∙ l.invariant
