-- The check of a node is the check of the expression.
use Rattle.std.proofs.Common.{◌≡◌, IfOk, sym, subst}
use Rattle.cpa_trap_checks.specs.Checks.{Check}
use Rattle.cpa_trap_checks.specs.lemmas.Shapes.{over_out}
use Rattle.cpa_trap_checks.proofs.checks.+overflowing.Goals as goal

pub over_check-returns : goal.over_check-returns
over_check-returns t c =
    subst (λ (e : Check). IfOk c.over_node.result (λ r. r ≡ e)) (sym (over_out c.args.e.now))
    c.over_node.ensures
