use Rattle.std.specs.declared.vec.Vec.{Vec}
use Rattle.std.specs.declared.alloc.Global.{Global}
use Rattle.std.proofs.Common.{sym, subst}
use Rattle.std.proofs.lemmas.Result.{IfOk-weaker}
use Rattle.cpa_model.specs.declared.facts.Elem.{Elem}
use Rattle.cpa_iface.specs.declared.precisions.Precision.{Precision}
use Rattle.cpa_iface.specs.Laws.{TransferLaws}
use Rattle.cpa_iface.specs.Locations.{location}
use Rattle.cpa_iface.proofs.LocationLaws.{next_points-laws}
use Rattle.cpa_iface.proofs.location.LocationSteps.transfer.Goals as goal

pub returns : goal.returns
returns c =
    let cfa = c.args.cfa.now in
    let e = c.args.elem.now in
    IfOk-weaker _ _ (λ (es : Vec Elem Global).
    (p : Precision) → TransferLaws location cfa c.args.edge e p es.items) (λ es is p.
    subst (TransferLaws location cfa c.args.edge e p) (sym is)
    (next_points-laws cfa c.args.edge e p _ c.requires.automaton c.edge.ensures))
    c.next_points.ensures
