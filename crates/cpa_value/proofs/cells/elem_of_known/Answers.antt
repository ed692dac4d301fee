-- One cell more.
use Rattle.std.specs.Prelude.{true}
use Rattle.cpa_value.proofs.CellLemmas.{facts_from-more}
use Rattle.cpa_value.proofs.cells.elem_of_known.Goals as goal

pub loop-cell-preserved : goal.loop-cell-preserved
loop-cell-preserved c =
    facts_from-more (λ _. true) c.args.cells.now c.loop-cell.cell c.loop-cell.facts
    c.push_fact.new.facts c.loop-cell-test.true
    c.loop-cell.invariant c.in_ok-push_fact.ensures
