use Rattle.cpa_engine_laws.specs.lemmas.Covering.{pin_apart, least_same, merged_same}
use Rattle.cpa_engine_laws.proofs.laws.keys_lose_nothing.Goals as goal

pub returns-clause-pins : goal.returns-clause-pins
returns-clause-pins c = pin_apart

pub returns-clause-covers : goal.returns-clause-covers
returns-clause-covers c = least_same

pub returns-clause-merges : goal.returns-clause-merges
returns-clause-merges c = merged_same
