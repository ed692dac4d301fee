-- Each block is full.
use Rattle.std.proofs.Common.{rules}
use Rattle.cpa_facts.proofs.FillingLemmas.{all_facts}
use Rattle.cpa_facts.proofs.filling.Filling.len.Goals as goal

pub returns : goal.returns
returns c = search (rules, all_facts)
