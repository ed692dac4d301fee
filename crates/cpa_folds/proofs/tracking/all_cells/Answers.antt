-- One cell more.
use Rattle.std.proofs.Common.{ap, sym, ◌∙◌, ◌++◌, [], ◌∷◌}
use Rattle.cpa_folds.proofs.MarkLemmas.{range_more}
use Rattle.cpa_folds.proofs.tracking.all_cells.Goals as goal

pub loop-cell-preserved : goal.loop-cell-preserved
loop-cell-preserved c =
    let n = c.loop-cell.cell in
    c.in_ok-push.ensures.ok ∙ (ap (λ l. l ++ n ∷ []) c.loop-cell.invariant ∙ sym (range_more n))
