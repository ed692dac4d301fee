-- The machine's remainder is what the quotient leaves.
use Rattle.cpa_expr.proofs.Quotients.{rest_is}
use Rattle.cpa_expr.proofs.operators.remainder.Goals as goal

pub returns-else-b-eq0 : goal.returns-else-b-eq0
returns-else-b-eq0 c =
    rest_is c.args.a c.args.b c.wrapping_rem.result c.ranges.a c.ranges.b
    (record { sfits = c.wrapping_rem.type_inv }) c.if-b-eq0.false c.wrapping_rem.ensures
