-- The reduced number wraps alike.
use Rattle.cpa_expr.proofs.WrapSteps.{wrap_negated}
use Rattle.cpa_expr.proofs.operators.negated.Goals as goal

pub returns : goal.returns
returns c =
    let r = c.reduced.ensures in
    wrap_negated c.args.ty c.args.a c.reduced.result c.wrap.result c.ranges.a
    (record { sfits = c.wrap.type_inv }) (r.low, r.high) r.alike c.wrap.ensures.value
