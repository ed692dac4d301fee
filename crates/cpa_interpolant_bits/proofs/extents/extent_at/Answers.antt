use Rattle.std.proofs.Common.{sym}
use Rattle.std.proofs.lemmas.Bool.{ltb-false}
use Rattle.cpa_interpolant_bits.proofs.Measured.{missing_extent}
use Rattle.cpa_interpolant_bits.proofs.extents.extent_at.Goals as goal

pub returns-in-None : goal.returns-in-None
returns-in-None c = λ found are.
    missing_extent c.args.extents.now found c.args.number are
    (ltb-false _ _ (sym c.in-None.ensures.lookup.0))
