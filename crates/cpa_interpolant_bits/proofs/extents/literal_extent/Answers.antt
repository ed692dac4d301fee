use Rattle.cpa_interpolant_bits.proofs.Measured.{no_bit_extent}
use Rattle.cpa_interpolant_bits.proofs.extents.literal_extent.Goals as goal

pub returns-in-None : goal.returns-in-None
returns-in-None c =
    no_bit_extent c.args.bits.now c.args.literal c.var.result c.in-None.ensures c.var.ensures
