use Rattle.std.proofs.Common.{subst, sym}
use Rattle.cpa_model.specs.declared.automaton.Act.{Act}
use Rattle.cpa_recheck_bounds.specs.Standing.{AreTested}
use Rattle.cpa_recheck_bounds.proofs.Stood.{test_holds}
use Rattle.cpa_recheck_bounds.proofs.standing.tested.Goals as goal

pub returns-in_ok-facts-in-Assume : goal.returns-in_ok-facts-in-Assume
returns-in_ok-facts-in-Assume c =
    subst (λ (a : Act). AreTested a c.in_ok-facts-in-Assume.facts) (sym c.in-Assume.is)
    (test_holds c.in-Assume.test c.in-Assume.holds c.in_ok-facts-in-Assume.facts
    c.in_ok-facts-in-Assume.ensures)
