use Rattle.std.proofs.Common.{◌↔◌, IsTrue, subst, sym}
use Rattle.cpa_model.specs.Facts.{IsFact}
use Rattle.cpa_model.proofs.facts.is_fact.Goals as goal

pub returns-in-Truth : goal.returns-in-Truth
returns-in-Truth c =
    subst (λ fact. IsTrue c.is_expr.result ↔ IsFact c.args.cells.now c.args.points fact)
    (sym c.in-Truth.is) c.is_expr.ensures
