-- N11 is not broken, so a body is named main.
use Rattle.c_core_laws.proofs.MainBody.{main_body}
use Rattle.c_core_laws.proofs.laws.cores_have_a_main.Goals as goal

pub returns : goal.returns
returns c = main_body
