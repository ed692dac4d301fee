use Rattle.cpa_interpolant_cuts.specs.Laws.{cuts_interpolate}
use Rattle.cpa_interpolant_cuts.proofs.laws.cuts_interpolate.Goals as goal

pub returns : goal.returns
returns c =
    cuts_interpolate c.circuits_have_values.ensures (record {
      first = c.two_lists_are_sides.ensures.first;
      second = c.two_lists_are_sides.ensures.second;
    })
