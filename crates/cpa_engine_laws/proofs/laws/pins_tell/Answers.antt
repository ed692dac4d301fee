use Rattle.cpa_engine_laws.specs.lemmas.Telling.{pins_tell}
use Rattle.cpa_engine_laws.proofs.laws.pins_tell.Goals as goal

pub returns : goal.returns
returns c = pins_tell
