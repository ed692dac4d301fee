-- One expression more.
use Rattle.std.proofs.Common.{◌∙◌}
use Rattle.cpa_query.proofs.MarkLemmas.{one_more}
use Rattle.cpa_query.proofs.reads.mark_wanted.Goals as goal

pub loop-one-preserved : goal.loop-one-preserved
loop-one-preserved c =
    let l = c.loop-one in
    record {
      long = c.mark_reads.ensures.length ∙ l.invariant.long;
      marks = λ cell.
          one_more c.args.wanted.now l.one-index c.one-item.result c.args.marks.now l.marks
          c.mark_reads.new.marks cell c.loop-one-test.true c.one-item.is l.invariant.long
          (l.invariant.marks cell) (c.mark_reads.ensures.marks cell);
    }
