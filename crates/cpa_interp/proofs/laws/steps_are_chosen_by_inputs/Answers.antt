use Rattle.cpa_interp.specs.lemmas.Choosing.{same_state}
use Rattle.cpa_interp.proofs.laws.steps_are_chosen_by_inputs.Goals as goal

pub returns : goal.returns
returns c = λ P s t u W x y taken. same_state P W.numbered s t u x y taken
