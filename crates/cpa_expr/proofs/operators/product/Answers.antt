-- The reduced numbers wrap alike, and their product fits.
use Rattle.cpa_expr.proofs.WrapSteps.{wrap_product}
use Rattle.cpa_expr.proofs.operators.product.Goals as goal

pub returns : goal.returns
returns c =
    let r = c.reduced.ensures in
    let s = c.reduced-2.ensures in
    wrap_product c.args.ty c.args.a c.args.b c.reduced.result c.reduced-2.result c.wrap.result
    c.ranges.a c.ranges.b (record { sfits = c.wrap.type_inv }) (r.low, r.high) (
      s.low,
      s.high,
    ) r.alike s.alike c.wrap.ensures.value
