-- The cells of an automaton are few, and those that are tracked are the precision's.
use Rattle.std.proofs.Common.{sym, ◌∙◌}
use Rattle.cpa_interval.proofs.LoopLemmas.{few_cells, same_strengthening}
use Rattle.cpa_interval.proofs.strengthening.strengthened.Goals as goal

pub met-requires : goal.met-requires
met-requires c =
    few_cells c.args.cfa.now c.in_ok-all.all.cells c.requires.automaton
    (c.in_ok-all.ensures.cells ∙ c.as_slice-cells.ensures)

pub returns : goal.returns
returns c =
    same_strengthening c.args.cfa.now.cells c.as_slice-cells.result.now c.in_ok-all.all.cells
    c.args.precision.now c.in_ok-tracked.tracked c.args.own.now c.args.others.now
    c.in_ok-all.all.each c.in_ok-elem.elem c.as_slice-cells.ensures c.in_ok-all.ensures.cells
    c.in_ok-all.ensures.each c.in_ok-tracked.ensures
    (sym c.some_bound.ensures ∙ c.if-not-some_bound.false) c.in_ok-elem.ensures
