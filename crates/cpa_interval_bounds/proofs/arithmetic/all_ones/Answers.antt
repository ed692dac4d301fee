-- A number that is not negative has no more than 127 bits.
use Rattle.std.proofs.Common.{◌≡◌, ◌≢◌, ℕ, ◌+◌, ◌*◌, ◌-◌, ◌^◌, ◌<◌, ◌≤◌, ◌==◌, refl, ap, subst, sym}
use Rattle.std.proofs.Common.{◌∙◌}
use Rattle.std.proofs.Common.{arith, Bool, true, false, ℤ, pos, negsuc, FitsSigned, of_z}
use Rattle.std.specs.Prelude.{int_lt}
use Rattle.std.specs.Int.{w128, leading_zeros}
use Rattle.std.proofs.lemmas.Int.{to_z-of_z}
use Rattle.std.proofs.lemmas.Nat.{leading_length}
use Rattle.std.proofs.lemmas.Bool.Decides.{Decides-eqb}
use Rattle.cpa_interval_bounds.proofs.arithmetic.all_ones.Goals as goal

few_bits : (m n : ℕ) → m ≤ 128 → 2 ^ m ≤ 2 * n + 1 → n < 2 ^ 127 → m < 128
few_bits m n most low high = by (m == 128) refl where
  by : (b : Bool) → (m == 128) ≡ b → m < 128
  by true is =
      let all : m ≡ 128 = (Decides-eqb m 128).0 is in
      let power : 2 ^ m ≡ 2 ^ 128 = ap (λ k. 2 ^ k) all in
      absurd (omega arith)
  by false is =
      let differs : m ≢ 128 = λ e. absurd (cc ((Decides-eqb m 128).1 e, is)) in
      omega arith

some_zero : (n : ℕ) → n < 2 ^ 127 → 128 - leading_zeros w128 n < 128
some_zero n h =
    let wide : n < 2 ^ 128 = omega arith in
    let it = leading_length 128 n wide in
    let few = few_bits it.0 n (omega (arith, it.1)) it.3 h in
    omega (arith, it.1)

bits_of_it : (z : ℤ) → FitsSigned w128 z → int_lt z (pos 0) ≡ false
    → 128 - leading_zeros w128 (of_z w128 z) < 128
bits_of_it (pos n) fits test = some_zero n fits.sfits
bits_of_it (negsuc n) fits test = absurd (cc)

pub ones-requires : goal.ones-requires
ones-requires c =
    let n = c.args.n in
    let same = to_z-of_z w128 n c.ranges.n in
    let test : int_lt n (pos 0) ≡ false = ap (λ z. int_lt z (pos 0)) (sym same) ∙
    c.if-n-lt0.false in
    subst (λ z. 128 - z < 128) (sym (c.leading_zeros.ensures
    ∙ ap (λ z. leading_zeros w128 (of_z w128 z)) same)) (bits_of_it n c.ranges.n test)
