use Rattle.std.proofs.Common.{subst}
use Rattle.c_types_rules.specs.Sound.{BreaksTree}
use Rattle.c_types.specs.Firsts.{FindsFirst}
use Rattle.c_types.proofs.Law.{fault_checked}
use Rattle.c_types.proofs.outcome.outcome_over.Goals as goal

pub returns-in-Some : goal.returns-in-Some
returns-in-Some c =
    let model = c.args.survey.now.model in
    fault_checked model c.args.unit.now c.in-Some.fault
    (subst (FindsFirst (BreaksTree model c.args.unit.now)) c.in-Some.is
    c.in_ok-gathered.ensures.first)
