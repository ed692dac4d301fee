use Rattle.std.proofs.Common.{sym, subst}
use Rattle.std.specs.Prelude.{Option}
use Rattle.std.proofs.lemmas.Result.{IfOk-weaker}
use Rattle.cpa_model.specs.declared.facts.Elem.{Elem}
use Rattle.cpa_iface.specs.Laws.{StrengthenLaws}
use Rattle.cpa_interval.specs.Intervals.{intervals}
use Rattle.cpa_interval.proofs.IntervalLaws.{strengthened-laws}
use Rattle.cpa_interval.proofs.interval.IntervalAnalysis.strengthen.Goals as goal

pub returns-clause-laws : goal.returns-clause-laws
returns-clause-laws c =
    let cfa = c.args.cfa.now in
    let own = c.args.own.now in
    let others = c.args.others.now in
    let p = c.args.precision.now in
    IfOk-weaker _ _ _ (λ (e : Option Elem) is.
    subst (StrengthenLaws intervals cfa own others p) (sym is)
    (strengthened-laws cfa own others p c.requires.own c.requires.others))
    c.strengthened.ensures
