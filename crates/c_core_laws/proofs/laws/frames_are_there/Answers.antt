-- What each function takes, from where its rules begin.
use Rattle.c_core_laws.proofs.FramesThere.{frame_stands}
use Rattle.c_core_laws.proofs.laws.frames_are_there.Goals as goal

pub returns : goal.returns
returns c = frame_stands
