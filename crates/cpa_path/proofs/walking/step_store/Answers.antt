use Rattle.std.proofs.Common.{subst}
use Rattle.cpa_model.specs.declared.automaton.Act.{Act}
use Rattle.cpa_model.specs.Steps.{StepsStore}
use Rattle.cpa_path.proofs.walking.step_store.Goals as goal

pub returns-in-Assign-clause-never : goal.returns-in-Assign-clause-never
returns-in-Assign-clause-never c = λ cells stop new step.
    c.assign.ensures.never stop new
    (subst (λ (a : Act). StepsStore cells a c.args.store.now.values new) c.in-Assign.is step)
