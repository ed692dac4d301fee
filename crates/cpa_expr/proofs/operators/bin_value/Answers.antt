-- Patterns of 64 bits give one of 64 bits.
use Rattle.std.proofs.lemmas.Nat.{or_lt, xor_lt}
use Rattle.cpa_expr.proofs.operators.bin_value.Goals as goal

pub from_bits-requires-in-BitOr : goal.from_bits-requires-in-BitOr
from_bits-requires-in-BitOr c =
    or_lt 64 c.bits-in-BitOr.result c.bits-in-BitOr-2.result c.bits-in-BitOr.ensures.narrow
    c.bits-in-BitOr-2.ensures.narrow

pub from_bits-requires-in-BitXor : goal.from_bits-requires-in-BitXor
from_bits-requires-in-BitXor c =
    xor_lt 64 c.bits-in-BitXor.result c.bits-in-BitXor-2.result c.bits-in-BitXor.ensures.narrow
    c.bits-in-BitXor-2.ensures.narrow
