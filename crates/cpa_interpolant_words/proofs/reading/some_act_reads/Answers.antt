-- The edge that reads it is one of the path.
use Rattle.cpa_interpolant_words.proofs.SharedCells.{some_there}
use Rattle.cpa_interpolant_words.proofs.reading.some_act_reads.Goals as goal

pub returns-then-act_reads : goal.returns-then-act_reads
returns-then-act_reads c = λ yes.
    some_there c.args.cfa.now c.args.edges.now c.loop-i.i c.edge.result.now c.args.cell
    c.requires.path c.loop-i-test.true c.edge.ensures (c.act_reads.ensures c.if-act_reads.true)
