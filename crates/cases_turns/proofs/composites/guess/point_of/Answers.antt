use Rattle.std.proofs.Common.{List, subst}
use Rattle.std.specs.List.{AllByRecursion}
use Rattle.cpa_model.specs.Facts.{FactHolds}
use Rattle.cpa_facts.specs.declared.fact.Fact.{Fact}
use Rattle.cases_turns.proofs.composites.guess.point_of.Goals as goal

pub loop-fact-preserved : goal.loop-fact-preserved
loop-fact-preserved c = λ s holds.
    (subst (λ (facts : List Fact). AllByRecursion (FactHolds s) facts) c.in-Some.ensures.steps
    (c.loop-fact.invariant s holds)).1
