use Rattle.cpa_blast_circuits.specs.Laws.{circuits_mean}
use Rattle.cpa_blast_circuits.proofs.laws.circuits_have_values.Goals as goal

pub returns : goal.returns
returns c = circuits_mean
