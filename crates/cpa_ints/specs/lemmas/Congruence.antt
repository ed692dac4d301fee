-- Numbers that differ by a multiple of m, and how sums, differences and products keep that.
use Rattle.std.proofs.Common.{◌≡◌, ℕ, ◌+◌, ◌*◌, ◌/◌, ◌^◌, ◌<◌, ◌≤◌, refl, sym, ap, arith, ℤ, pos}
use Rattle.std.proofs.Common.{negsuc, ◌+ℤ◌, ◌-ℤ◌, ◌*ℤ◌, ◌≤ℤ◌, ◌<ℤ◌, neg_ℤ}
use Rattle.std.proofs.lemmas.Int.{ints}
use Rattle.std.proofs.lemmas.Bool.{cases_order}
use mathlib.Core.Logic.{⊎_elim}
use Rattle.std.specs.Int.{int_rem_euclid}
use Rattle.cpa_ints.specs.Wrapping.{IsCongruent}
use borrow.Author.Differences.{up, down, same_in, same_out, sum_is_lem, neg_is, product_is}
use native.Mathlib.Nat.{div-add-mod', mod-lt, mul-le-mul_right}

-- a and b are equal after some multiples of m are added to both
pub record Same (m : ℕ) (a b : ℤ) : Type 0 where
  pub j : ℕ
  pub k : ℕ
  pub same : a +ℤ pos (j * m) ≡ b +ℤ pos (k * m)

module _ (m : ℕ) where
  pub Same-refl : (a : ℤ) → Same m a a
  Same-refl a = record { j = 0; k = 0; same = refl }

  pub Same-sym : (a b : ℤ) → Same m a b → Same m b a
  Same-sym a b s = record { j = s.k; k = s.j; same = sym s.same }

  pub Same-trans : (a b c : ℤ) → Same m a b → Same m b c → Same m a c
  Same-trans a b c s t =
      record {
        j = s.j + t.j;
        k = s.k + t.k;
        same = omega (
          arith,
          same_in,
          same_out,
          sum_is_lem,
          s.same,
          t.same,
        );
      }

  pub Same-add : (a b c d : ℤ) → Same m a b → Same m c d → Same m (a +ℤ c) (b +ℤ d)
  Same-add a b c d s t =
      record {
        j = s.j + t.j;
        k = s.k + t.k;
        same = omega (
          arith,
          same_in,
          same_out,
          sum_is_lem,
          s.same,
          t.same,
        );
      }

  pub Same-neg : (a b : ℤ) → Same m a b → Same m (neg_ℤ a) (neg_ℤ b)
  Same-neg a b s =
      record {
        j = s.k;
        k = s.j;
        same = omega (
          arith,
          same_in,
          same_out,
          sum_is_lem,
          neg_is,
          s.same,
        );
      }

  pub Same-sub : (a b c d : ℤ) → Same m a b → Same m c d → Same m (a -ℤ c) (b -ℤ d)
  Same-sub a b c d s t = Same-add a b (neg_ℤ c) (neg_ℤ d) s (Same-neg c d t)

  Same-mul_left : (a b c : ℤ) → Same m a b → Same m (a *ℤ c) (b *ℤ c)
  Same-mul_left a b c s =
      let sum : up a + s.j * m + down b ≡ up b + s.k * m + down a = omega (
        arith,
        same_out,
        sum_is_lem,
        s.same,
      ) in
      let above = ap (λ x. x * up c) sum in
      let below = ap (λ x. x * down c) sum in
      record {
        j = s.j * up c + s.k * down c;
        k = s.k * up c + s.j * down c;
        same = omega (arith, same_in, sum_is_lem, product_is);
      }

  Same-mul_right : (a c d : ℤ) → Same m c d → Same m (a *ℤ c) (a *ℤ d)
  Same-mul_right a c d s =
      let sum : up c + s.j * m + down d ≡ up d + s.k * m + down c = omega (
        arith,
        same_out,
        sum_is_lem,
        s.same,
      ) in
      let above = ap (λ x. x * up a) sum in
      let below = ap (λ x. x * down a) sum in
      record {
        j = s.j * up a + s.k * down a;
        k = s.k * up a + s.j * down a;
        same = omega (arith, same_in, sum_is_lem, product_is);
      }

  pub Same-mul : (a b c d : ℤ) → Same m a b → Same m c d → Same m (a *ℤ c) (b *ℤ d)
  Same-mul a b c d s t =
      Same-trans (a *ℤ c) (b *ℤ c) (b *ℤ d) (Same-mul_left a b c s) (Same-mul_right b c d t)

  -- the remainder of a division by m
  pub Same-rem : 0 < m → (n : ℤ) → Same m n (int_rem_euclid n (pos m))
  Same-rem p (pos a) =
      record { j = 0; k = a / m; same = omega (arith, same_in, sum_is_lem, div-add-mod' a m) }
  Same-rem p (negsuc a) =
      record {
        j = a / m + 1;
        k = 0;
        same = omega (
          arith,
          same_in,
          sum_is_lem,
          div-add-mod' a m,
          mod-lt a p,
        );
      }

  -- of m numbers in a row, none is the same as another
  pub Same-unique : (least a b : ℤ) → least ≤ℤ a → a <ℤ (least +ℤ pos m) → least ≤ℤ b →
      b <ℤ (least +ℤ pos m) → Same m a b → a ≡ b
  Same-unique least a b la al lb bl s =
      let below : (j k : ℕ) → j < k →
      j * m + m ≤ k * m = λ j k h. omega (arith, mul-le-mul_right m h) in
      ⊎_elim (λ e. let e' = ap (λ x. x * m) e in omega (arith, ints, s.same))
      (λ h. ⊎_elim (λ l. absurd (omega (arith, ints, s.same, below s.j s.k l))) (λ l.
      absurd (omega (arith, ints, s.same, below s.k s.j l))) h)
      (cases_order s.j s.k)

-- the public form of the same fact
pub Same-from : (bits : ℕ) (a b : ℤ) → IsCongruent bits a b → Same (2 ^ bits) a b
Same-from bits a b c =
    record {
      j = down c.0;
      k = up c.0;
      same = omega (
        arith,
        same_in,
        same_out,
        sum_is_lem,
        product_is,
        c.1,
      );
    }

pub Same-to : (bits : ℕ) (a b : ℤ) → Same (2 ^ bits) a b → IsCongruent bits a b
Same-to bits a b s =
    let z = pos s.k -ℤ pos s.j in
    let sum : up z + s.j ≡ down z + s.k = omega (arith, same_out, sum_is_lem, neg_is) in
    let times = ap (λ x. x * 2 ^ bits) sum in
    (z, omega (arith, same_in, same_out, sum_is_lem, product_is, times, s.same))
