use Rattle.c_core_checked.specs.Laws.{one_checked_text}
use Rattle.c_core_checked.proofs.laws.there_is_one_checked_text.Goals as goal

pub returns : goal.returns
returns c = one_checked_text
