use Rattle.std.specs.declared.vec.Vec.{Vec}
use Rattle.std.specs.declared.alloc.Global.{Global}
use Rattle.std.proofs.Common.{sym, subst}
use Rattle.std.proofs.lemmas.Result.{IfOk-weaker}
use Rattle.cpa_model.specs.declared.facts.Elem.{Elem}
use Rattle.cpa_iface.specs.declared.precisions.Precision.{Precision}
use Rattle.cpa_iface.specs.Laws.{TransferLaws}
use Rattle.cpa_callstack.specs.Stacks.{callstack}
use Rattle.cpa_callstack.proofs.StackLaws.{next_stacks-laws}
use Rattle.cpa_callstack.proofs.callstack.CallstackSteps.transfer.Goals as goal

pub returns : goal.returns
returns c =
    let cfa = c.args.cfa.now in
    let e = c.args.elem.now in
    let sound = c.edges_are_sound.ensures cfa c.args.edge _ c.requires.automaton c.edge.ensures in
    IfOk-weaker _ _ (λ (es : Vec Elem Global).
    (p : Precision) → TransferLaws callstack cfa c.args.edge e p es.items) (λ es is p.
    subst (TransferLaws callstack cfa c.args.edge e p) (sym is)
    (next_stacks-laws cfa c.args.edge e p _ sound c.requires.elem c.edge.ensures))
    c.next_stacks.ensures
