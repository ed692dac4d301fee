use Rattle.c_program.proofs.Refusals.{one}
use Rattle.c_program.proofs.laws.one_program.Goals as goal

pub returns : goal.returns
returns c =
    one c.one_token_list.ensures c.one_tree.ensures c.there_is_one_checked_text.ensures
    c.there_is_one_core.ensures
