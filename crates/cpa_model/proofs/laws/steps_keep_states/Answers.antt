use Rattle.cpa_model.proofs.Moves.{steps_keep_states_lem}
use Rattle.cpa_model.proofs.laws.steps_keep_states.Goals as goal

pub returns : goal.returns
returns c = steps_keep_states_lem
