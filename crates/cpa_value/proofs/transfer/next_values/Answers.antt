-- The cells of an automaton are few, and those that are tracked are the precision's.
use Rattle.std.proofs.Common.{refl}
use Rattle.std.specs.declared.vec.Vec.{Vec}
use Rattle.std.specs.declared.alloc.Global.{Global}
use Rattle.std.proofs.lemmas.Result.{IfOk-weaker}
use Rattle.cpa_model.specs.declared.facts.Elem.{Elem}
use Rattle.cpa_value.proofs.ChangeLemmas.{few_cells, same_transfer}
use Rattle.cpa_value.proofs.transfer.next_values.Goals as goal

pub after_elem-requires : goal.after_elem-requires
after_elem-requires c =
    few_cells c.args.cfa.now c.len-count.result c.requires.automaton c.len-count.ensures

pub returns : goal.returns
returns c = IfOk-weaker _ _ _ (λ (es : Vec Elem Global) is.
    same_transfer c.args.cfa.now c.args.precision.now c.in_ok-tracked.tracked c.args.elem.now
    c.args.edge.now c.len-count.result c.args.elem.now.facts es.items c.len-count.ensures
    refl c.in_ok-tracked.ensures is)
    c.after_elem.ensures
