-- A fact of one value says of its cell what that value says.
use Rattle.std.proofs.Common.{sym, ◌∙◌}
use Rattle.cpa_folds.specs.Tracking.{is_tracked}
use Rattle.cpa_value.proofs.ChangeLemmas.{said_is}
use Rattle.cpa_value.proofs.strengthening.said_by_fact.Goals as goal

pub returns-then-is_point : goal.returns-then-is_point
returns-then-is_point c =
    said_is (is_tracked c.args.tracked.now) c.args.fact.now _ _ _ c.value_at.result
    c.args.cells.now c.compared.result c.in-Within.is
    (sym c.is_point.ensures ∙ c.if-is_point.true) c.value_at.ensures
    (c.compared.ensures _ c.args.cells.now)
