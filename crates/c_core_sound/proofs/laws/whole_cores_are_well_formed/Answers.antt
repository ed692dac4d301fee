-- Each statement is sound; the rest are laws on cores.
use Rattle.c_core_sound.proofs.SoundCore.{well_formed}
use Rattle.c_core_sound.proofs.laws.whole_cores_are_well_formed.Goals as goal

pub returns : goal.returns
returns c = λ model tree typed P whole sound of is.
    well_formed c.frames_are_there.ensures c.statements_are_of_trees.ensures
    c.cores_are_numbered.ensures c.cores_are_small.ensures c.jumps_are_sound.ensures
    c.cores_have_a_main.ensures c.cells_start_in_range.ensures model tree typed P whole sound of is
