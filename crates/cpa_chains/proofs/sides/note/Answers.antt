use Rattle.std.proofs.Common.{arith}
use Rattle.cpa_chains.proofs.Noting.{noted_next, noted_beyond}
use Rattle.cpa_chains.proofs.sides.note.Goals as goal
use Rattle.cpa_chains.proofs.sides.note.Goals.{then-variable-table, else-variable-table}

pub loop-literal-preserved : goal.loop-literal-preserved
loop-literal-preserved c x within =
    let old = c.args.table.now in
    let table = c.loop-literal.table in
    let xs = c.args.literals.now in
    let i = c.loop-literal.literal-index in
    let literal = c.literal-item.result in
    let v = c.var-variable.result in
    elim c.if-variable-table.branch [
      | then-variable-table w ↦
          rw w.table-is
          (noted_next old table xs i literal v x c.loop-literal-test.true c.literal-item.is
          c.var-variable.ensures (omega arith) (c.loop-literal.invariant x within))
      | else-variable-table w ↦
          rw w.table-is
          (noted_beyond old table xs i literal v x c.loop-literal-test.true c.literal-item.is
          c.var-variable.ensures (omega arith) (omega arith) (c.loop-literal.invariant x within))
    ]
