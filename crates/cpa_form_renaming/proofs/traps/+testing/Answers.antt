-- The test of a node is the test of the expression.
use Rattle.std.proofs.Common.{◌≡◌, IfOk, sym, subst}
use Rattle.cpa_expr.specs.declared.tree.Expr.{Expr}
use Rattle.cpa_form_renaming.specs.lemmas.TestShapes.{test_node}
use Rattle.cpa_form_renaming.proofs.traps.+testing.Goals as goal

pub test_of-returns : goal.test_of-returns
test_of-returns t c =
    subst (λ (e : Expr). IfOk c.node_test.result (λ r. r ≡ e)) (sym (test_node c.args.e.now))
    c.node_test.ensures
