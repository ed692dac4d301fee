use Rattle.std.proofs.Common.{sym, subst}
use Rattle.std.proofs.lemmas.Result.{IfOk-weaker}
use Rattle.cpa_iface.specs.declared.precisions.Precision.{Precision}
use Rattle.cpa_iface.specs.Laws.{RefineLaws}
use Rattle.cpa_predicate.specs.Predicates.{predicates}
use Rattle.cpa_predicate.proofs.RefiningLemmas.{with_carried-laws}
use Rattle.cpa_predicate.proofs.predicate.PredicateAnalysis.refine.Goals as goal

pub returns-clause-laws : goal.returns-clause-laws
returns-clause-laws c =
    let cfa = c.args.cfa.now in
    let path = c.args.path.now in
    let p = c.args.precision.now in
    IfOk-weaker _ _ _ (λ (q : Precision) is.
    subst (RefineLaws predicates cfa path p) (sym is)
    (with_carried-laws c.carried_are_expressions.ensures cfa path p c.requires.automaton
    c.requires.precision))
    c.with_carried.ensures
