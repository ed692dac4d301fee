-- The cells of an automaton are few, and those that are tracked are the precision's.
use Rattle.std.proofs.Common.{◌∙◌}
use Rattle.cpa_interval.proofs.LoopLemmas.{few_cells, same_transfer}
use Rattle.cpa_interval.proofs.transfer.next_intervals.Goals as goal

pub after-requires : goal.after-requires
after-requires c =
    few_cells c.args.cfa.now c.in_ok-all.all.cells c.requires.automaton
    (c.in_ok-all.ensures.cells ∙ c.as_slice-cells.ensures)

pub returns : goal.returns
returns c =
    same_transfer c.args.cfa.now c.args.precision.now c.in_ok-tracked.tracked c.args.elem.now
    c.args.edge.now c.as_slice-cells.result.now c.in_ok-all.all.cells c.in_ok-all.all.each
    c.in_ok-elems.elems.items c.as_slice-cells.ensures c.in_ok-all.ensures.cells
    c.in_ok-all.ensures.each c.in_ok-tracked.ensures c.in_ok-elems.ensures
