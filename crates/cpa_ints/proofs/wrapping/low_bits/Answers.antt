-- The mask has the low bits set, and what it lets through is the remainder.
use Rattle.std.proofs.Common.{◌∙◌, sym, subst, ap, pos, ◌≤ℤ◌, ◌<ℤ◌, bit_and, ◌*◌, ◌%◌, ◌^◌, ◌-◌}
use Rattle.std.proofs.Common.{to_z, of_z, to_z-of_z}
use Rattle.cpa_ints.specs.lemmas.Masks.{masked, rem_range}
use Rattle.cpa_ints.proofs.wrapping.low_bits.Goals as goal
use lib.Pow.{pow_pos}
use mir.Syntax.{w128}

pub returns : goal.returns
returns c =
    let n = c.args.n in
    let bits = c.args.bits in
    let bits_of = c.cast_unsigned.ensures ∙ ap (of_z w128) (to_z-of_z {w = w128} c.ranges.n) in
    let value = ap (λ b. to_z w128 (bit_and b (1 * 2 ^ bits % 2 ^ 128 - 1))) bits_of
    ∙ masked n bits c.ranges.n c.requires in
    let range = rem_range n (2 ^ bits) (pow_pos bits) in
    record {
      value = value;
      not_negative = subst (λ z. pos 0 ≤ℤ z) (sym value) range.0;
      below = subst (λ z. z <ℤ pos (2 ^ bits)) (sym value) range.1;
    }
