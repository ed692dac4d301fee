use Rattle.cpa_model.proofs.Moves.{initial_is_state_lem}
use Rattle.cpa_model.proofs.laws.initial_is_state.Goals as goal

pub returns : goal.returns
returns c = initial_is_state_lem
