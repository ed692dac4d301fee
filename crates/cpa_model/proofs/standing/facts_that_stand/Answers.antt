-- Each clause is a lemma on the tests.
use Rattle.cpa_model.specs.lemmas.StandingLaws.{same_fact-exact, has_facts-exact, HasFacts-within}
use Rattle.cpa_model.specs.lemmas.StandingLaws.{HasFacts-same}
use Rattle.cpa_model.proofs.standing.facts_that_stand.Goals as goal

pub returns-clause-same : goal.returns-clause-same
returns-clause-same c = same_fact-exact

pub returns-clause-exact : goal.returns-clause-exact
returns-clause-exact c = has_facts-exact

pub returns-clause-within : goal.returns-clause-within
returns-clause-within c = HasFacts-within

pub returns-clause-own : goal.returns-clause-own
returns-clause-own c = HasFacts-same
