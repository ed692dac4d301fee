use Rattle.std.proofs.Common.{◌∙◌, ◌||◌, ◌&&◌, ap, length}
use Rattle.std.specs.Prelude.{nat_lt}
use Rattle.cpa_expr.specs.Cells.{may_read}
use Rattle.cpa_query.specs.Queries.{is_marked}
use Rattle.cpa_engine_rounds.proofs.MarkLemmas.{one_more}
use Rattle.cpa_engine_rounds.proofs.pivots.mark_preds.Goals as goal

pub loop-pred-preserved : goal.loop-pred-preserved
loop-pred-preserved c =
    let l = c.loop-pred in
    let e = c.pred-item.result in
    record {
      long = c.mark_reads.ensures.length ∙ l.invariant.long;
      marks = λ cell.
          one_more (λ x. may_read x cell) c.args.preds.now l.pred-index e e
          (is_marked c.args.marks.now cell) (is_marked l.marks cell)
          (is_marked c.mark_reads.new.marks cell) (nat_lt cell (length c.args.marks.now))
          c.loop-pred-test.true c.pred-item.is (l.invariant.marks cell)
          (c.mark_reads.ensures.marks cell
          ∙ ap (λ n. is_marked l.marks cell || (may_read e cell && nat_lt cell n))
          l.invariant.long);
    }
