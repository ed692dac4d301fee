-- The low bits of a number in two's complement are its remainder.
use Rattle.std.proofs.Common.{◌≡◌, ℕ, suc, ◌+◌, ◌-◌, ◌*◌, ◌%◌, ◌^◌, ◌<◌, ◌≤◌, refl, sym, ap, ◌∙◌}
use Rattle.std.proofs.Common.{arith, ℤ, pos, negsuc, ◌≤ℤ◌, ◌<ℤ◌, bit_and, to_z, of_z, FitsSigned}
use Rattle.std.proofs.lemmas.Int.{ints, int_rem_euclid_is, to_z_pos}
use Rattle.std.proofs.lemmas.Nat.{and_mask, pow-add}
use Rattle.std.proofs.Math.Pow.{pow_mono}
use Rattle.std.specs.Int.{int_rem_euclid}
use mir.Syntax.{w128}
use lib.Pow.{pow_pos}
use native.Mathlib.Nat.{mod-lt, mod-eq_of_lt}

of_bits : (n : ℤ) (bits : ℕ) → FitsSigned w128 n → bits ≤ 64 →
    pos (of_z w128 n % 2 ^ bits) ≡ int_rem_euclid n (pos (2 ^ bits))
of_bits (pos a) bits f h = refl
of_bits (negsuc a) bits f h =
    let whole : 128 - bits + bits ≡ 128 = omega arith in
    let split : 2 ^ (128 - bits) * 2 ^ bits ≡ 2 ^ 128 = sym (pow-add 2 (128 - bits) bits)
    ∙ ap (λ k. 2 ^ k) whole in
    sym (int_rem_euclid_is (negsuc a) (pos (2 ^ bits)) (2 ^ bits) (2 ^ (128 - bits))
    (2 ^ 128 - suc a) (pow_pos bits) refl (omega (arith, ints, split, f.sfits)))

-- a shift by at most 64 loses nothing
pub shifted : (bits : ℕ) → bits ≤ 64 → (1 * 2 ^ bits % 2 ^ 128 ≡ 2 ^ bits) × (2 ^ bits ≤ 2 ^ 64)
shifted bits h =
    let low : 2 ^ bits ≤ 2 ^ 64 = pow_mono h in
    let one : 1 * 2 ^ bits ≡ 2 ^ bits = omega arith in
    let under : 2 ^ bits < 2 ^ 128 = omega arith in
    (ap (λ k. k % 2 ^ 128) one ∙ mod-eq_of_lt under, low)

pub masked : (n : ℤ) (bits : ℕ) → FitsSigned w128 n → bits ≤ 64 →
    to_z w128 (bit_and (of_z w128 n) (1 * 2 ^ bits % 2 ^ 128 - 1))
    ≡ int_rem_euclid n (pos (2 ^ bits))
masked n bits f h =
    let shift = shifted bits h in
    let low = shift.1 in
    let small : of_z w128 n % 2 ^ bits < 2 ^ 64 = omega (
      arith,
      mod-lt (of_z w128 n) (pow_pos bits),
    ) in
    ap (λ m. to_z w128 (bit_and (of_z w128 n) (m - 1))) shift.0
    ∙ ap (to_z w128) (and_mask (of_z w128 n) bits) ∙ to_z_pos w128 _ (omega arith)
    ∙ of_bits n bits f h

pub rem_range : (n : ℤ) (m : ℕ) → 0 < m →
    (pos 0 ≤ℤ int_rem_euclid n (pos m)) × (int_rem_euclid n (pos m) <ℤ pos m)
rem_range (pos a) m p = (omega (arith, ints), omega (arith, ints, mod-lt a p))
rem_range (negsuc a) m p = (omega (arith, ints), omega (arith, ints, mod-lt a p))
