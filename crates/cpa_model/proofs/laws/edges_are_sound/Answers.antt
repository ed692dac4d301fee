use Rattle.cpa_model.specs.lemmas.EdgesSound.{edge_sound}
use Rattle.cpa_model.proofs.laws.edges_are_sound.Goals as goal

pub returns : goal.returns
returns c = edge_sound
