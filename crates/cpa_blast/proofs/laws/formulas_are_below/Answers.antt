use Rattle.cpa_blast.specs.Laws.{formulas_below}
use Rattle.cpa_blast.proofs.laws.formulas_are_below.Goals as goal

pub returns : goal.returns
returns c = formulas_below c.circuits_have_values.ensures
