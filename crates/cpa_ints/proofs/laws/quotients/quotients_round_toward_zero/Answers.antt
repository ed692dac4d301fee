use Rattle.cpa_ints.proofs.laws.quotients.quotients_round_toward_zero.Goals as goal
use Rattle.cpa_ints.proofs.QuotientLaws.{exactly_div, div_leaves, only_div}

pub returns-clause-exactly : goal.returns-clause-exactly
returns-clause-exactly c = exactly_div

pub returns-clause-is : goal.returns-clause-is
returns-clause-is c = div_leaves

pub returns-clause-only : goal.returns-clause-only
returns-clause-only c = only_div
