-- Both are lemmas on `wrapped`.
use Rattle.cpa_ints.specs.lemmas.WrapLaws.{wrapped_is_wrap, wrap_unique}
use Rattle.cpa_ints.proofs.laws.wrap_is_the_congruent_number.Goals as goal

pub returns-clause-is : goal.returns-clause-is
returns-clause-is c = wrapped_is_wrap

pub returns-clause-only : goal.returns-clause-only
returns-clause-only c = wrap_unique
