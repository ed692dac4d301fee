use Rattle.c_program.proofs.Refusals.{none}
use Rattle.c_program.proofs.laws.no_program_has_a_fault.Goals as goal

pub returns : goal.returns
returns c =
    none c.one_token_list.ensures c.one_tree.ensures c.no_tree_has_a_fault.ensures
    c.tokens_or_one_fault.ensures.either
