-- The rules of statements keep labels and jumps, and those of expressions have none.
use Rattle.c_core_laws.proofs.JumpsKept.{text_keeps}
use Rattle.c_core_laws.proofs.laws.jumps_are_kept.Goals as goal

pub returns : goal.returns
returns c = λ model tree checked of. (text_keeps model tree checked of).are
