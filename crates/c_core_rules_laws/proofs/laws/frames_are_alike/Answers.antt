use Rattle.c_core_rules_laws.specs.Laws.{frames_are_alike}
use Rattle.c_core_rules_laws.proofs.laws.frames_are_alike.Goals as goal

pub returns : goal.returns
returns c = frames_are_alike
