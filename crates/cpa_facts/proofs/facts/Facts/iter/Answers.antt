-- What is left is given in order.
use Rattle.cpa_facts.proofs.Steps.{in_order}
use Rattle.cpa_facts.proofs.facts.Facts.iter.Goals as goal

pub returns-clause-runs : goal.returns-clause-runs
returns-clause-runs c = in_order
