use Rattle.cpa_recheck_obligations.proofs.Entering.{tabled_next}
use Rattle.cpa_recheck_obligations.proofs.table.table_of.Goals as goal

pub loop-number-preserved : goal.loop-number-preserved
loop-number-preserved c =
    tabled_next c.args.spots.now c.loop-number.number c.index-spots-number.result
    c.loop-number.numbers.entries c.enter_found.new.table.entries c.loop-number-test.true
    c.index-spots-number.is c.loop-number.invariant c.in_ok-enter_found.ensures
