use Rattle.cpa_interpolant_bits.proofs.building.+built.Given as goal

abbrev pub decreases-built : goal.decreases-built
decreases-built l = l.number
