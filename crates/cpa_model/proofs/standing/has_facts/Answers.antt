-- The test decides whether the facts stand.
use Rattle.std.proofs.Common.{◌↔◌, IsTrue, sym, subst}
use Rattle.cpa_model.specs.Facts.{HasFacts}
use Rattle.cpa_model.specs.lemmas.StandingLaws.{has_facts-exact}
use Rattle.cpa_model.proofs.standing.has_facts.Goals as goal

pub returns-clause-stand : goal.returns-clause-stand
returns-clause-stand c =
    let e = c.args.elem.now in
    let f = c.args.other.now in
    subst (λ b. IsTrue b ↔ HasFacts e f) (sym c.all_stand.ensures) (has_facts-exact e f)
