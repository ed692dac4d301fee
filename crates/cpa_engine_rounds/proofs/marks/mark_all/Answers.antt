use Rattle.std.proofs.Common.{◌∙◌, ◌||◌, ◌&&◌, eqb, get_or, ap, refl, length}
use Rattle.std.specs.Prelude.{nat_lt}
use Rattle.cpa_query.specs.Queries.{is_marked}
use Rattle.cpa_engine_rounds.proofs.MarkLemmas.{one_more}
use Rattle.cpa_engine_rounds.proofs.marks.mark_all.Goals as goal

pub loop-cell-preserved : goal.loop-cell-preserved
loop-cell-preserved c =
    let l = c.loop-cell in
    let cells = c.args.cells.now in
    let m = get_or cells l.cell-index 0 in
    record {
      long = c.mark.ensures.length ∙ l.invariant.long;
      marks = λ cell.
          one_more (λ k. eqb k cell) cells l.cell-index m 0 (is_marked c.args.marks.now cell)
          (is_marked l.marks cell) (is_marked c.mark.new.marks cell)
          (nat_lt cell (length c.args.marks.now)) c.loop-cell-test.true refl
          (l.invariant.marks cell)
          (c.mark.ensures.marks cell
          ∙ ap (λ n. is_marked l.marks cell || (eqb m cell && nat_lt cell n)) l.invariant.long);
    }
