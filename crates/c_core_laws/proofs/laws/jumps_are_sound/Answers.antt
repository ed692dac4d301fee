-- N6 and N8 are not broken, and the trees have the jumps of the typed functions.
use Rattle.c_core_laws.proofs.JumpsSound.{jump_sound}
use Rattle.c_core_laws.proofs.laws.jumps_are_sound.Goals as goal

pub returns : goal.returns
returns c = jump_sound
