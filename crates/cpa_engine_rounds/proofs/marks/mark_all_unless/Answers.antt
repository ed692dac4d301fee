use Rattle.std.proofs.Common.{◌∙◌, ◌||◌, ◌&&◌, not, eqb, get_or, ap, refl, length}
use Rattle.std.specs.Prelude.{nat_lt}
use Rattle.std.specs.List.{list_any}
use Rattle.cpa_query.specs.Queries.{is_marked}
use Rattle.cpa_engine_rounds.proofs.MarkLemmas.{one_more, any_beside, take_end}
use Rattle.cpa_engine_rounds.proofs.marks.mark_all_unless.Goals as goal

pub loop-cell-preserved : goal.loop-cell-preserved
loop-cell-preserved c =
    let l = c.loop-cell in
    let cells = c.args.cells.now in
    let m = get_or cells l.cell-index 0 in
    record {
      long = c.mark_unless.ensures.length ∙ l.invariant.long;
      marks = λ cell.
          one_more (λ k. eqb k cell && not (is_marked c.args.others.now cell)) cells l.cell-index m
          0
          (is_marked c.args.marks.now cell) (is_marked l.marks cell)
          (is_marked c.mark_unless.new.marks cell) (nat_lt cell (length c.args.marks.now))
          c.loop-cell-test.true refl (l.invariant.marks cell)
          (c.mark_unless.ensures.marks cell
          ∙ ap (λ n. is_marked l.marks cell
          || ((eqb m cell && not (is_marked c.args.others.now cell)) && nat_lt cell n))
          l.invariant.long);
    }

pub returns-clause-marks : goal.returns-clause-marks
returns-clause-marks c = λ cell.
    let l = c.loop-cell in
    let cells = c.args.cells.now in
    let k = not (is_marked c.args.others.now cell) in
    let less = nat_lt cell (length c.args.marks.now) in
    l.invariant.marks cell
    ∙ ap (λ ns. is_marked c.args.marks.now cell || (list_any (λ m. eqb m cell && k) ns && less))
    (take_end cells l.cell-index c.loop-cell-test.false)
    ∙ ap (λ b. is_marked c.args.marks.now cell || (b && less)) (any_beside cells cell k)
