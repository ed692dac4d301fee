-- One cell more, and no more.
use Rattle.cpa_folds.specs.Tracking.{is_tracked}
use Rattle.cpa_value.proofs.ChangeLemmas.{along_more, along_all}
use Rattle.cpa_value.proofs.transfer.push_along.Goals as goal

pub loop-cell-preserved : goal.loop-cell-preserved
loop-cell-preserved c =
    along_more (is_tracked c.args.tracked.now) c.args.value c.loop-cell.cell c.args.end c.has.result
    c.loop-cell.left c.push_fact.new.facts _ c.loop-cell-test.true c.has.ensures
    c.in_ok-push_fact.ensures c.loop-cell.invariant

pub returns : goal.returns
returns c =
    along_all (is_tracked c.args.tracked.now) c.args.value c.loop-cell.cell c.args.end
    c.loop-cell.left _ c.loop-cell-test.false c.loop-cell.invariant
