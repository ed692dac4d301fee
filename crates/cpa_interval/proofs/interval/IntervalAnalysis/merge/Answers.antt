use Rattle.std.proofs.Common.{sym, subst}
use Rattle.std.proofs.lemmas.Result.{IfOk-weaker}
use Rattle.cpa_model.specs.declared.facts.Elem.{Elem}
use Rattle.cpa_iface.specs.Laws.{MergeLaws}
use Rattle.cpa_interval.specs.Intervals.{intervals}
use Rattle.cpa_interval.proofs.IntervalLaws.{merged-laws}
use Rattle.cpa_interval.proofs.interval.IntervalAnalysis.merge.Goals as goal

pub returns-clause-laws : goal.returns-clause-laws
returns-clause-laws c =
    let cfa = c.args.cfa.now in
    let new = c.args.new.now in
    let old = c.args.old.now in
    let p = c.args._precision.now in
    IfOk-weaker _ _ _ (λ (e : Elem) is.
    subst (MergeLaws intervals cfa c.args.rule new old p) (sym is)
    (merged-laws cfa c.args.rule new old p c.requires.new c.requires.old))
    c.merged.ensures
