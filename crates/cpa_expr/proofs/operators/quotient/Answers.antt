-- But for -1 the quotient fits, and is what the machine's division gives.
use Rattle.cpa_expr.proofs.Quotients.{wrap_quotient}
use Rattle.cpa_expr.proofs.operators.quotient.Goals as goal

pub returns-else-b-eqminus1 : goal.returns-else-b-eqminus1
returns-else-b-eqminus1 c =
    wrap_quotient c.args.ty c.args.a c.args.b c.wrap.result c.ranges.a c.ranges.b
    (record { sfits = c.wrap.type_inv }) c.if-b-eq0.false c.if-b-eqminus1.false
    c.wrap.ensures.value
