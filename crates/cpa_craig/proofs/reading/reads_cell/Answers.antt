-- The cells up to the first that it may read.
use Rattle.std.proofs.Common.{ℕ, length, sym, ap, arith}
use Rattle.cpa_craig.proofs.ReadLemmas.{some_read, none_read}
use Rattle.cpa_craig.proofs.reading.reads_cell.Goals as goal

pub overflow_cast-count : goal.overflow_cast-count
overflow_cast-count c =
    let few = c.requires.automaton.well_formed.few_cells in
    let same = ap length c.requires.automaton.automaton.cells in
    let long = c.len-count.ensures in
    omega (arith, few, same, long)

pub returns-then-may_read : goal.returns-then-may_read
returns-then-may_read c =
    sym (some_read c.args.e.now c.loop-cell.cell (sym c.if-may_read.ensures))

pub returns : goal.returns
returns c =
    sym (none_read c.args.cfa.now.cells c.args.e.now c.requires.expression
    (λ (cell : ℕ) inside.
    let long = c.len-count.ensures in
    let past = c.loop-cell-test.false in
    c.loop-cell.invariant cell (omega (arith, inside, long, past))))
