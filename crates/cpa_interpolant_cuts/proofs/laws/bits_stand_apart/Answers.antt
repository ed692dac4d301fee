use Rattle.cpa_interpolant_cuts.specs.Variables.{bits_stand_apart}
use Rattle.cpa_interpolant_cuts.proofs.laws.bits_stand_apart.Goals as goal

pub returns : goal.returns
returns c = bits_stand_apart c.circuits_have_values.ensures
