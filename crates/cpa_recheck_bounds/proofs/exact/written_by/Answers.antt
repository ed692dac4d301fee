use Rattle.std.proofs.Common.{◌+◌, pos, subst}
use Rattle.cpa_expr.specs.Values.{value_of}
use Rattle.cpa_model.specs.declared.automaton.Act.{Act}
use Rattle.cpa_model.specs.Steps.{StepsStore}
use Rattle.cpa_recheck_bounds.proofs.Exactly.{has_written, same_number}
use Rattle.cpa_recheck_bounds.proofs.exact.written_by.Goals as goal

pub returns-in-Assign : goal.returns-in-Assign
returns-in-Assign c = λ cells old new lie are steps.
    let it = subst (λ (a : Act). StepsStore cells a old new) c.in-Assign.is steps in
    has_written c.written_at.result old new (c.in-Assign.base + it.place) it.written it.after
    (c.written_at.ensures it.place it.written
    (same_number c.exact_value.result (value_of c.in-Assign.index old) (pos it.place) it.index_is
    (c.exact_value.ensures old lie are))
    (same_number c.exact_value-in-Assign.result (value_of c.in-Assign.value old) it.written
    it.value_is (c.exact_value-in-Assign.ensures old lie are)))
