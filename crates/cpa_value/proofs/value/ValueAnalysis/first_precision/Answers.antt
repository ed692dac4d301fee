use Rattle.std.proofs.Common.{refl, sym, subst}
use Rattle.std.proofs.lemmas.Result.{IfOk-weaker}
use Rattle.cpa_iface.specs.declared.precisions.Precision.{Precision}
use Rattle.cpa_iface.specs.Laws.{FirstPrecisionLaws}
use Rattle.cpa_folds.specs.lemmas.Appending.{first_tracking-laws}
use Rattle.cpa_value.specs.Values.{values}
use Rattle.cpa_value.proofs.value.ValueAnalysis.first_precision.Goals as goal

pub returns-clause-laws : goal.returns-clause-laws
returns-clause-laws c =
    let cfa = c.args.cfa.now in
    let settings = c.args.settings.now in
    IfOk-weaker _ _ _ (λ (p : Precision) is. subst (FirstPrecisionLaws values cfa settings) (sym is)
    (first_tracking-laws values cfa settings settings.limit (λ none. none) refl))
    c.first_tracking.ensures
