use Rattle.std.proofs.Common.{arith}
use Rattle.cpa_cnf.specs.lemmas.Marking.{clears_next, clears_beyond}
use Rattle.cpa_cnf.proofs.marks.clear.Goals as goal
use Rattle.cpa_cnf.proofs.marks.clear.Goals.{then-number-table, else-number-table}

pub loop-literal-preserved : goal.loop-literal-preserved
loop-literal-preserved c x =
    let old = c.args.table.now in
    let table = c.loop-literal.table in
    let xs = c.args.literals.now in
    let i = c.loop-literal.literal-index in
    let literal = c.literal-item.result in
    elim c.if-number-table.branch [
      | then-number-table w ↦
          rw (w.table-is, c.number-number.ensures)
          (clears_next old table xs i literal x c.loop-literal-test.true c.literal-item.is
          (omega arith) (c.loop-literal.invariant x))
      | else-number-table w ↦
          rw w.table-is
          (clears_beyond old table xs i literal x c.loop-literal-test.true c.literal-item.is
          (omega arith) (c.loop-literal.invariant x))
    ]
