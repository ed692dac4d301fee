-- Division by a number that is not 0.
use Rattle.std.proofs.Common.{◌≡◌, ◌≢◌, ℕ, zero, suc, ◌^◌, ◌≤◌, ◌<◌, ◌/◌, refl, sym, ap, ◌∙◌, arith}
use Rattle.std.proofs.Common.{ℤ, pos, negsuc, ◌-ℤ◌, ◌*ℤ◌, neg_ℤ, int_div, int_rem, FitsSigned, of_z}
use Rattle.std.proofs.Common.{Some, None, false, ◌-◌}
use Rattle.std.specs.Prelude.{if◌then◌else◌}
use Rattle.std.specs.Ordering.{int_eq}
use Rattle.std.proofs.lemmas.Int.{ints, quot-rem, quot_is}
use Rattle.std.proofs.Math.Nat.{div-le_self, div-lt_self}
use Rattle.cpa_ints.specs.declared.integers.IntType.{IntType}
use Rattle.cpa_ints.specs.Wrapping.{wrapped}
use Rattle.cpa_expr.specs.Values.{divided_by}
use Rattle.cpa_expr.proofs.WrapSteps.{back, comes_back}
use mir.Syntax.{w128}

pub apart_eq : (a b : ℤ) → a ≢ b → int_eq a b ≡ false
apart_eq a b h = grind (arith, ints)

pub divided : {A : Type 0} (b : ℤ) (x : A) → (of_z w128 b ≡ 0 → ⊥) → divided_by b x ≡ Some x
divided b x h =
    ap (λ e. if e then None else Some x) (apart_eq b (pos 0) (λ e. h (ap (of_z w128) e)))

lowered : (k n : ℕ) → k ≤ suc n → n < 2 ^ 127 → FitsSigned w128 (neg_ℤ (pos k))
lowered zero n h f = record { sfits = omega arith }
lowered (suc k) n h f = record { sfits = omega arith }

-- but for -1, a quotient fits
quotient_fits : (a b : ℤ) → FitsSigned w128 a → (of_z w128 b ≡ 2 ^ 128 - 1 → ⊥) →
    FitsSigned w128 (int_div a b)
quotient_fits (pos n) (pos m) f h = record { sfits = omega (arith, div-le_self n m, f.sfits) }
quotient_fits (pos n) (negsuc m) f h =
    lowered (n / suc m) n (omega (arith, div-le_self n (suc m))) f.sfits
quotient_fits (negsuc n) (pos m) f h = lowered (suc n / m) n (div-le_self (suc n) m) f.sfits
quotient_fits (negsuc n) (negsuc zero) f h = absurd (h refl)
quotient_fits (negsuc n) (negsuc (suc m)) f h =
    record {
      sfits = omega (
        arith,
        f.sfits,
        div-lt_self {n = suc n} {k = suc (suc m)} (omega arith)
            (omega arith),
      );
    }

pub wrap_quotient : (t : IntType) (a b w : ℤ) → FitsSigned w128 a → FitsSigned w128 b →
    FitsSigned w128 w → (of_z w128 b ≡ 0 → ⊥) → (of_z w128 b ≡ 2 ^ 128 - 1 → ⊥)
    → w ≡ wrapped t (back (int_div (back a) (back b))) →
    Some (back w) ≡ divided_by b (wrapped t (int_div a b))
wrap_quotient t a b w fa fb fw some apart is =
    ap Some (comes_back w fw ∙ is ∙ ap (wrapped t)
    (quot_is w128 a b fa fb (quotient_fits a b fa apart)))
    ∙ sym (divided b (wrapped t (int_div a b)) some)

-- what the quotient leaves
pub rest_is : (a b w : ℤ) → FitsSigned w128 a → FitsSigned w128 b → FitsSigned w128 w →
    (of_z w128 b ≡ 0 → ⊥)
    → w ≡ int_rem (back a) (back b) → Some (back w) ≡ divided_by b (a -ℤ int_div a b *ℤ b)
rest_is a b w fa fb fw some is =
    let plain : back w ≡ int_rem a b = comes_back w fw ∙ is
    ∙ ap (λ z. int_rem z (back b)) (comes_back a fa) ∙ ap (int_rem a) (comes_back b fb) in
    let whole = quot-rem a b in
    let rest : int_rem a b ≡ a -ℤ int_div a b *ℤ b = omega (arith, ints, whole) in
    ap Some (plain ∙ rest) ∙ sym (divided b (a -ℤ int_div a b *ℤ b) some)
