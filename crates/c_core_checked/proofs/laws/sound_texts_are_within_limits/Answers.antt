use Rattle.c_core_checked.specs.Laws.{sound_texts_are_within_limits}
use Rattle.c_core_checked.proofs.laws.sound_texts_are_within_limits.Goals as goal

pub returns : goal.returns
returns c = sound_texts_are_within_limits
