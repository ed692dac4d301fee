use Rattle.std.proofs.Common.{subst}
use Rattle.cpa_expr.specs.Values.{value_of}
use Rattle.cpa_model.specs.declared.automaton.Act.{Act}
use Rattle.cpa_model.specs.Steps.{StepsStore}
use Rattle.cpa_recheck_bounds.proofs.Exactly.{other_truth}
use Rattle.cpa_recheck_bounds.proofs.exact.is_refuted.Goals as goal

pub returns-in-Assume : goal.returns-in-Assume
returns-in-Assume c = λ cells old new lie are steps.
    let it = subst (λ (a : Act). StepsStore cells a old new) c.in-Assume.is steps in
    other_truth c.exact_value.result (value_of c.in-Assume.test old) c.in-Assume.holds
    c.is_other.result (c.exact_value.ensures old lie are) it.0 c.is_other.ensures
