-- One cell more.
use Rattle.std.proofs.Common.{ap, sym, ◌∙◌, refl, [], ◌∷◌, ◌++◌, cond}
use Rattle.cpa_query.specs.Queries.{is_marked}
use Rattle.cpa_folds.proofs.MarkLemmas.{filter_push}
use Rattle.cpa_folds.proofs.marks.marked.Goals as goal

pub loop-cell-preserved : goal.loop-cell-preserved
loop-cell-preserved c =
    let marks = c.args.marks.now in
    let n = c.loop-cell.cell in
    c.in_ok-push_where.ensures
    ∙ (ap (λ l. l ++ cond (is_marked marks n) (n ∷ []) []) c.loop-cell.invariant
    ∙ sym (filter_push (is_marked marks) n (is_marked marks n) refl))
