-- The types of types are themselves.
use Rattle.std.proofs.Common.{◌↔◌, IsTrue, subst}
use Rattle.cpa_expr.specs.Shape.{IsExpr}
use Rattle.cpa_expr.proofs.CellTypes.{map_itself}
use Rattle.cpa_expr.proofs.typing.is_expr.Goals as goal

pub returns : goal.returns
returns c =
    subst (λ types. IsTrue c.is_expr_over.result ↔
    IsExpr types c.args.e.now) (map_itself c.args.cells.now) c.is_expr_over.ensures
