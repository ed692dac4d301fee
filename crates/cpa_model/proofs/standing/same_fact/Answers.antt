-- The test decides whether the facts are equal.
use Rattle.std.proofs.Common.{◌≡◌, ◌↔◌, IsTrue, sym, subst}
use Rattle.cpa_model.specs.lemmas.StandingLaws.{same_fact-exact}
use Rattle.cpa_model.proofs.standing.same_fact.Goals as goal

pub returns-clause-same : goal.returns-clause-same
returns-clause-same c =
    let f = c.args.a.now in
    let g = c.args.b.now in
    subst (λ b. IsTrue b ↔ (f ≡ g)) (sym c.is_same.ensures) (same_fact-exact f g)
