use Rattle.cpa_model.proofs.Moves.{moves_inside}
use Rattle.cpa_model.proofs.laws.moves_stay_inside.Goals as goal

pub returns : goal.returns
returns c = moves_inside
