use Rattle.std.proofs.Common.{refl, sym, subst}
use Rattle.std.proofs.lemmas.Result.{IfOk-weaker}
use Rattle.cpa_iface.specs.declared.precisions.Precision.{Precision}
use Rattle.cpa_iface.specs.Laws.{RefineLaws}
use Rattle.cpa_folds.specs.lemmas.Appending.{refined-laws}
use Rattle.cpa_interval.specs.Intervals.{intervals}
use Rattle.cpa_interval.proofs.interval.IntervalAnalysis.refine.Goals as goal

pub returns-clause-laws : goal.returns-clause-laws
returns-clause-laws c =
    let cfa = c.args.cfa.now in
    let path = c.args.path.now in
    let p = c.args.precision.now in
    IfOk-weaker _ _ _ (λ (q : Precision) is. subst (RefineLaws intervals cfa path p) (sym is)
    (refined-laws intervals cfa path p refl refl c.requires.precision)) c.refined.ensures
