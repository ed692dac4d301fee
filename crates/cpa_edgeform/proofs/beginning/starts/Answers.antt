-- One cell more.
use Rattle.std.proofs.Common.{◌∙◌, ◌++◌, ◌∷◌, [], true, ap, arith}
use Rattle.cpa_expr.specs.declared.tree.Expr.{Expr}
use Rattle.cpa_edgeform.proofs.Turns.{one_start, all_started}
use Rattle.cpa_edgeform.proofs.beginning.starts.Goals as goal

pub loop-i-preserved : goal.loop-i-preserved
loop-i-preserved c =
    let l = c.loop-i in
    one_start c.args.cells.now l.i _ l.wanted.items _ _ (omega arith)
    (c.in_ok-push.ensures.items
    ∙ ap (λ (e : Expr). l.wanted.items ++ (e, true) ∷ []) c.in_ok-test.ensures)
    l.invariant

pub returns : goal.returns
returns c =
    let l = c.loop-i in
    all_started c.args.cells.now l.i l.wanted.items _ (omega arith) l.invariant
