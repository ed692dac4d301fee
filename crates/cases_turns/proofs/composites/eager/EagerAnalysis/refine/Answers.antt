use Rattle.std.proofs.Common.{sym, subst}
use Rattle.std.proofs.lemmas.Result.{IfOk-weaker}
use Rattle.cpa_iface.specs.declared.precisions.Precision.{Precision}
use Rattle.cpa_iface.specs.Laws.{RefineLaws}
use Rattle.cases_turns.specs.Samples.{eager}
use Rattle.cases_turns.proofs.Growing.{longer_refined}
use Rattle.cases_turns.proofs.composites.eager.EagerAnalysis.refine.Goals as goal

pub returns-clause-laws : goal.returns-clause-laws
returns-clause-laws c =
    let cfa = c.args._cfa.now in
    let path = c.args._path.now in
    let p = c.args.precision.now in
    IfOk-weaker _ _ _ (λ (q : Precision) is.
    subst (RefineLaws eager cfa path p) (sym is) (longer_refined cfa path p c.requires.precision))
    c.longer.ensures
