use Rattle.cpa_blast.specs.Laws.{formulas_are}
use Rattle.cpa_blast.proofs.laws.formulas_are_queries.Goals as goal

pub returns : goal.returns
returns c = formulas_are c.circuits_have_values.ensures
