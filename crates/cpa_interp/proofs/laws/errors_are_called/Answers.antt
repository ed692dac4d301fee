use Rattle.cpa_interp.specs.lemmas.Outcomes.{error_is_called}
use Rattle.cpa_interp.proofs.laws.errors_are_called.Goals as goal

pub returns : goal.returns
returns c = error_is_called
