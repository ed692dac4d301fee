use Rattle.std.proofs.Common.{sym}
use Rattle.cpa_model.specs.Standing.{same_fact}
use Rattle.cpa_iface.specs.lemmas.PlaceLaws.{found_behind}
use Rattle.cpa_iface.proofs.standing.behind_fact.Goals as goal

pub returns-in-Some-clause-stands : goal.returns-in-Some-clause-stands
returns-in-Some-clause-stands c =
    sym (found_behind (λ own. same_fact own c.args.fact.now) c.args.facts.now c.args.from
    (sym c.in-Some.ensures.stands))
