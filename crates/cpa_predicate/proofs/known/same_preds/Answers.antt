-- A test of lists, item by item.
use Rattle.std.proofs.Common.{sym, ◌∙◌}
use Rattle.cpa_expr.specs.Laws.{same_where_equal}
use Rattle.cpa_predicate.proofs.FindingLemmas.{pointwise_is}
use Rattle.cpa_predicate.proofs.known.same_preds.Goals as goal

pub returns : goal.returns
returns c = λ t.
    pointwise_is _ (λ x y. (same_where_equal x y).0) _ _ (sym c.eq.ensures ∙ t)
