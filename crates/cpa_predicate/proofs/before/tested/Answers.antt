-- The test is this expression.
use Rattle.cpa_predicate.proofs.BeforeLemmas.{test_after}
use Rattle.cpa_predicate.proofs.before.tested.Goals as goal

pub returns-then-same : goal.returns-then-same
returns-then-same c =
    test_after c.in-Assume.test c.args.p.now c.in-Assume.holds c.args.act.now
    c.in-Assume.is (c.same_expr-same.ensures.same.0 c.if-same.true)
