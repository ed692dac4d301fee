use Rattle.cpa_interpolant_bits.proofs.Measured.{set_extent, unset_extent}
use Rattle.cpa_interpolant_bits.proofs.extents.bit_extent.Goals as goal

pub returns-then-set : goal.returns-then-set
returns-then-set c = λ bit. set_extent bit c.args.set c.if-set.true

pub returns-else-set : goal.returns-else-set
returns-else-set c = λ bit. unset_extent bit c.args.set c.if-set.false
