-- What the node itself reads, and what its parts read.
use Rattle.cpa_query.proofs.MarkLemmas.{node_and_parts}
use Rattle.cpa_query.proofs.reads.+marking.Goals as goal

pub mark_reads-returns-clause-marks : goal.mark_reads-returns-clause-marks
mark_reads-returns-clause-marks t c = λ cell.
    node_and_parts c.args.e.now c.args.marks.now c.mark_node.new.marks c.mark_parts.new.marks cell
    c.mark_node.ensures.length
    (c.mark_node.ensures.marks cell) (c.mark_parts.ensures.marks cell)
