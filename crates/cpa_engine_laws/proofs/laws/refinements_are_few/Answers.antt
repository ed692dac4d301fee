use Rattle.cpa_engine_laws.specs.lemmas.Growing.{refined_falls, all_few}
use Rattle.cpa_engine_laws.proofs.laws.refinements_are_few.Goals as goal

pub returns-clause-falls : goal.returns-clause-falls
returns-clause-falls c = refined_falls

pub returns-clause-few : goal.returns-clause-few
returns-clause-few c = all_few
