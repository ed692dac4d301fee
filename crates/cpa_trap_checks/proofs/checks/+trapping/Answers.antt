-- The check of a node is the check of the expression.
use Rattle.std.proofs.Common.{◌≡◌, IfOk, sym, subst}
use Rattle.cpa_trap_checks.specs.Checks.{Check}
use Rattle.cpa_trap_checks.specs.lemmas.Shapes.{trap_out}
use Rattle.cpa_trap_checks.proofs.checks.+trapping.Goals as goal

pub trap_check-returns : goal.trap_check-returns
trap_check-returns t c =
    subst (λ (e : Check). IfOk c.trap_node.result (λ r. r ≡ e)) (sym (trap_out c.args.e.now))
    c.trap_node.ensures
