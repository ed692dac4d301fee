use Rattle.std.proofs.Common.{sym, subst, arith}
use Rattle.std.proofs.lemmas.Result.{IfOk-weaker}
use Rattle.cpa_model.specs.declared.facts.Elem.{Elem}
use Rattle.cpa_iface.specs.Laws.{InitialLaws}
use Rattle.cases_turns.specs.Samples.{counter}
use Rattle.cases_turns.proofs.Counting.{count_initial}
use Rattle.cases_turns.proofs.composites.counter.CounterAnalysis.initial.Goals as goal

pub returns-clause-laws : goal.returns-clause-laws
returns-clause-laws c =
    let cfa = c.args._cfa.now in
    let small = c.saturating_add-self.type_inv in
    IfOk-weaker _ _ _ (λ (e : Elem) is.
    subst (InitialLaws counter cfa) (sym is)
    (count_initial cfa c.saturating_add-self.result (omega (arith, small))))
    c.count.ensures
