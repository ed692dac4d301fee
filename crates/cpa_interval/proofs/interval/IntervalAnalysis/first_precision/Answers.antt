use Rattle.std.proofs.Common.{refl, sym, subst}
use Rattle.std.proofs.lemmas.Result.{IfOk-weaker}
use Rattle.cpa_iface.specs.declared.precisions.Precision.{Precision}
use Rattle.cpa_iface.specs.Laws.{FirstPrecisionLaws}
use Rattle.cpa_folds.specs.lemmas.Appending.{first_tracking-laws}
use Rattle.cpa_interval.specs.Intervals.{intervals}
use Rattle.cpa_interval.proofs.interval.IntervalAnalysis.first_precision.Goals as goal

pub returns-clause-laws : goal.returns-clause-laws
returns-clause-laws c =
    let cfa = c.args.cfa.now in
    let settings = c.args.settings.now in
    IfOk-weaker _ _ _ (λ (p : Precision) is.
    subst (FirstPrecisionLaws intervals cfa settings) (sym is)
    (first_tracking-laws intervals cfa settings 0 (λ _. refl) refl))
    c.first_tracking.ensures
