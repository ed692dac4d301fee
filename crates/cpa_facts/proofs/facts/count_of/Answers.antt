-- All blocks but the last are full.
use Rattle.std.proofs.Common.{rules}
use Rattle.cpa_facts.proofs.BlockLemmas.{length_filled}
use Rattle.cpa_facts.proofs.facts.count_of.Goals as goal

pub returns-in-Some : goal.returns-in-Some
returns-in-Some c = search (rules, length_filled)

pub overflow_add-result : goal.overflow_add-result
overflow_add-result c = search (rules, length_filled)
