use Rattle.std.specs.declared.vec.Vec.{Vec}
use Rattle.std.specs.declared.alloc.Global.{Global}
use Rattle.std.proofs.Common.{sym, subst}
use Rattle.std.proofs.lemmas.Result.{IfOk-weaker}
use Rattle.cpa_model.specs.declared.facts.Elem.{Elem}
use Rattle.cpa_iface.specs.Laws.{TransferLaws}
use Rattle.cpa_interval.specs.Intervals.{intervals}
use Rattle.cpa_interval.proofs.IntervalLaws.{next_intervals-laws}
use Rattle.cpa_interval.proofs.interval.IntervalAnalysis.transfer.Goals as goal

pub returns-clause-laws : goal.returns-clause-laws
returns-clause-laws c =
    let cfa = c.args.cfa.now in
    let e = c.args.elem.now in
    let p = c.args.precision.now in
    let sound = c.edges_are_sound.ensures cfa c.args.edge _ c.requires.automaton c.edge.ensures in
    IfOk-weaker _ _ _ (λ (es : Vec Elem Global) is.
    subst (TransferLaws intervals cfa c.args.edge e p) (sym is)
    (next_intervals-laws c.wrap_keeps_the_range.ensures.stays cfa c.args.edge e p _
    sound c.requires.elem c.edge.ensures))
    c.next_intervals.ensures
