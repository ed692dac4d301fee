use Rattle.cpa_config.proofs.Empty.{defaults}
use Rattle.cpa_config.proofs.laws.the_empty_text_gives_the_defaults.Goals as goal

pub returns : goal.returns
returns c = defaults
