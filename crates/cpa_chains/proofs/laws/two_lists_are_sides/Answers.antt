use Rattle.cpa_chains.proofs.Joining.{first_side, second_side}
use Rattle.cpa_chains.proofs.laws.two_lists_are_sides.Goals as goal

pub returns-clause-first : goal.returns-clause-first
returns-clause-first c = first_side

pub returns-clause-second : goal.returns-clause-second
returns-clause-second c = second_side
