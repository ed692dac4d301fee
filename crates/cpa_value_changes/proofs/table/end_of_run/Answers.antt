-- Facts of a run are in order exactly where its first and its last cell lie right.
use Rattle.std.proofs.Common.{inl, inr}
use Rattle.cpa_value_changes.proofs.OrderLemmas.{run_inside, run_outside}
use Rattle.cpa_value_changes.proofs.table.end_of_run.Goals.{else-low-first-via-else-low-first}
use Rattle.cpa_value_changes.proofs.table.end_of_run.Goals.{else-low-first-via-then-low-first+else-end-count}
use Rattle.cpa_value_changes.proofs.table.end_of_run.Goals as goal

pub returns-then-end-count : goal.returns-then-end-count
returns-then-end-count c = λ facts is.
    run_inside c.args.count c.args.low c.args.run facts is c.if-low-first.true c.if-end-count.true

pub returns-else-low-first : goal.returns-else-low-first
returns-else-low-first c = λ facts is. elim c.else-low-first.branch [
  | else-low-first-via-then-low-first+else-end-count w ↦
      run_outside c.args.count c.args.low c.args.run facts is (inr w.if-end-count.false)
  | else-low-first-via-else-low-first w ↦
      run_outside c.args.count c.args.low c.args.run facts is (inl w.if-low-first.false)
]
