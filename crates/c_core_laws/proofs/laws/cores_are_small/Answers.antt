-- N13 is not broken, and speaks of what the rules make.
use Rattle.c_core_laws.proofs.Small.{core_small}
use Rattle.c_core_laws.proofs.laws.cores_are_small.Goals as goal

pub returns : goal.returns
returns c = core_small
