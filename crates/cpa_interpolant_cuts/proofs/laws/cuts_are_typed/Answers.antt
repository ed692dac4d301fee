use Rattle.cpa_interpolant_cuts.specs.Laws.{cuts_are_typed}
use Rattle.cpa_interpolant_cuts.proofs.laws.cuts_are_typed.Goals as goal

pub returns : goal.returns
returns c = cuts_are_typed c.circuits_have_values.ensures
