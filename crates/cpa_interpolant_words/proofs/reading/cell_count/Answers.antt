-- There are fewer cells than numbers.
use Rattle.std.proofs.Common.{length, ap, arith}
use Rattle.cpa_interpolant_words.proofs.reading.cell_count.Goals as goal

pub overflow_cast-count : goal.overflow_cast-count
overflow_cast-count c =
    let few = c.requires.automaton.well_formed.few_cells in
    let same = ap length c.requires.automaton.automaton.cells in
    let long = c.len-count.ensures in
    omega (arith, few, same, long)
