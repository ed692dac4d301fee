use Rattle.std.proofs.Common.{ap, sym, ◌∙◌, subst}
use Rattle.std.proofs.lemmas.Result.{IfOk-weaker}
use Rattle.cpa_model.specs.declared.facts.Elem.{Elem}
use Rattle.cpa_iface.specs.Laws.{InitialLaws}
use Rattle.cpa_interval.specs.Intervals.{intervals, starts_of}
use Rattle.cpa_interval.proofs.IntervalLaws.{starts-laws}
use Rattle.cpa_interval.proofs.interval.IntervalAnalysis.initial.Goals as goal

pub returns-clause-laws : goal.returns-clause-laws
returns-clause-laws c =
    let cfa = c.args.cfa.now in
    IfOk-weaker _ _ _ (λ (e : Elem) is. subst (InitialLaws intervals cfa)
    (sym (is ∙ ap starts_of c.as_slice.ensures)) (starts-laws cfa c.requires)) c.starts.ensures
