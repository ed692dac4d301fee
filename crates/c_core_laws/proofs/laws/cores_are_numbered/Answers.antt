-- The numbering of the trees of a core, whose nodes have the parts of their heads.
use Rattle.c_core_laws.proofs.Numbered.{core_numbered}
use Rattle.c_core_laws.proofs.laws.cores_are_numbered.Goals as goal

pub returns : goal.returns
returns c = core_numbered
