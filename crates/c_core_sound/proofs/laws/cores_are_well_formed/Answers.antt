-- A text is whole.
use Rattle.c_core_sound.proofs.laws.cores_are_well_formed.Goals as goal

pub returns : goal.returns
returns c = λ model text tokens tree typed P are t sound of is.
    c.whole_cores_are_well_formed.ensures model tree typed P
    (c.texts_are_whole.ensures model text tokens tree are t) sound of is
