use Rattle.cpa_interpolant_cuts.specs.Laws.{cuts_are_asked}
use Rattle.cpa_interpolant_cuts.proofs.laws.cuts_are_asked.Goals as goal

pub returns : goal.returns
returns c = cuts_are_asked c.circuits_have_values.ensures
