use Rattle.std.proofs.lemmas.Slice.Eq.{slice_eq-Decides}
use Rattle.cpa_expr.specs.lemmas.SameTrees.{same_expr_decides}
use Rattle.cpa_iface.proofs.precisions.same_preds.Goals as goal

pub returns : goal.returns
returns c =
    slice_eq-Decides same_expr_decides c.args.preds.now c.args.others.now c.eq.result c.eq.ensures
