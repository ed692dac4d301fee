-- An end that moves by one stops where 128 bits end, which leaves the numbers between as they are.
use Rattle.std.proofs.Common.{◌≡◌, ◌≢◌, ℤ, pos, negsuc, ◌+ℤ◌, ◌-ℤ◌, ◌≤ℤ◌, ◌<ℤ◌, Bool, true, false}
use Rattle.std.proofs.Common.{refl, sym, ap, subst, ◌∙◌, arith, cond, ◌&&◌, FitsSigned}
use Rattle.std.specs.Prelude.{None, Some}
use Rattle.std.specs.Int.{w128, saturate_signed}
use Rattle.std.specs.Ordering.{int_eq}
use Rattle.std.proofs.lemmas.Int.{ints, by_lt_z}
use Rattle.std.proofs.lemmas.Bool.{and_parts}
use Rattle.std.proofs.lemmas.Bool.Decides.{Decides-int_eq}
use Rattle.cpa_interval_bounds.specs.declared.bounds.Bounds.{Bounds}
use Rattle.cpa_interval_bounds.specs.Bounds.{bounds, between}
use Rattle.cpa_interval_bounds.specs.Truths.{is_only}
use Rattle.cpa_interval_bounds.specs.lemmas.Saturated.{saturate_fits, saturate_order}
use Rattle.cpa_interval_bounds.specs.lemmas.Sets.{le_false}

-- there is no other number
pub only_means : (b : Bounds) (n : ℤ) → is_only b n ≡ true → (b.lo ≡ n) × (b.hi ≡ n)
only_means b n h =
    let both = and_parts (int_eq b.lo n) (int_eq b.hi n) h in
    ((Decides-int_eq b.lo n).0 both.0, (Decides-int_eq b.hi n).0 both.1)

pub only_from : (b : Bounds) (n : ℤ) → b.lo ≡ n → b.hi ≡ n → is_only b n ≡ true
only_from b n low high =
    ap (λ x. x && int_eq b.hi n) ((Decides-int_eq b.lo n).1 low) ∙ (Decides-int_eq b.hi n).1 high

fits_between : (a b c : ℤ) → FitsSigned w128 a → FitsSigned w128 c → a ≤ℤ b → b ≤ℤ c
    → FitsSigned w128 b
fits_between a (pos n) (pos m) first last low high =
    let h = last.sfits in record { sfits = omega (arith, ints) }
fits_between a (pos n) (negsuc m) first last low high = absurd (omega (arith, ints))
fits_between (pos k) (negsuc n) c first last low high = absurd (omega (arith, ints))
fits_between (negsuc k) (negsuc n) c first last low high =
    let h = first.sfits in record { sfits = omega (arith, ints) }

next : ℤ → ℤ
next z = saturate_signed w128 (z +ℤ pos 1)

before : ℤ → ℤ
before z = saturate_signed w128 (z -ℤ pos 1)

next_above : (z : ℤ) → FitsSigned w128 z → z ≤ℤ next z
unfolding next
next_above z f =
    let same = saturate_fits z f in
    let order = saturate_order z (z +ℤ pos 1) (omega (arith, ints)) in omega (arith, ints)

before_below : (z : ℤ) → FitsSigned w128 z → before z ≤ℤ z
unfolding before
before_below z f =
    let same = saturate_fits z f in
    let order = saturate_order (z -ℤ pos 1) z (omega (arith, ints)) in omega (arith, ints)

apart : (z : ℤ) → FitsSigned w128 z → before z <ℤ next z
unfolding before next
apart (pos n) f =
    let above = next_above (pos n) f in
    let inner : FitsSigned w128 (pos n -ℤ pos 1) =
    fits_between (negsuc 0) (pos n -ℤ pos 1) (pos n) (record { sfits = omega arith }) f
    (omega (arith, ints)) (omega (arith, ints)) in
    let same = saturate_fits (pos n -ℤ pos 1) inner in omega (arith, ints)
apart (negsuc n) f =
    let below = before_below (negsuc n) f in
    let inner : FitsSigned w128 (negsuc n +ℤ pos 1) =
    fits_between (negsuc n) (negsuc n +ℤ pos 1) (pos 0) f (record { sfits = omega arith })
    (omega (arith, ints)) (omega (arith, ints)) in
    let same = saturate_fits (negsuc n +ℤ pos 1) inner in omega (arith, ints)

none_between : (lo hi : ℤ) → hi <ℤ lo → between lo hi ≡ None
none_between lo hi h = ap (λ x. cond x (Some (bounds lo hi)) None) (le_false lo hi h)

from_next : (lo hi : ℤ) → FitsSigned w128 lo → FitsSigned w128 hi → lo ≢ hi
    → between (next lo) hi ≡ between (lo +ℤ pos 1) hi
unfolding next
from_next lo hi first last differs =
    by_lt_z hi (lo +ℤ pos 1)
    (λ h.
    let above = next_above lo first in
    let less : hi <ℤ lo = omega (arith, ints) in
    none_between (next lo) hi (omega (arith, ints)) ∙ sym (none_between (lo +ℤ pos 1) hi h))
    (λ h. ap (λ z. between z hi) (saturate_fits (lo +ℤ pos 1)
    (fits_between lo (lo +ℤ pos 1) hi first last (omega (arith, ints)) h)))

to_before : (lo hi : ℤ) → FitsSigned w128 lo → FitsSigned w128 hi → lo ≢ hi
    → between lo (before hi) ≡ between lo (hi -ℤ pos 1)
unfolding before
to_before lo hi first last differs =
    by_lt_z (hi -ℤ pos 1) lo
    (λ h.
    let below = before_below hi last in
    let less : hi <ℤ lo = omega (arith, ints) in
    none_between lo (before hi) (omega (arith, ints)) ∙ sym (none_between lo (hi -ℤ pos 1) h))
    (λ h. ap (between lo) (saturate_fits (hi -ℤ pos 1)
    (fits_between lo (hi -ℤ pos 1) hi first last h (omega (arith, ints)))))

-- both ends without the one number
pub without_ends : (a b : Bounds) → FitsSigned w128 a.lo → FitsSigned w128 a.hi
    → between (cond (is_only b a.lo) (saturate_signed w128 (a.lo +ℤ pos 1)) a.lo)
    (cond (is_only b a.hi) (saturate_signed w128 (a.hi -ℤ pos 1)) a.hi)
    ≡ between (cond (is_only b a.lo) (a.lo +ℤ pos 1) a.lo)
    (cond (is_only b a.hi) (a.hi -ℤ pos 1) a.hi)
unfolding next before
without_ends a b first last = by (is_only b a.lo) (is_only b a.hi) refl refl where
  by : (x y : Bool) → is_only b a.lo ≡ x → is_only b a.hi ≡ y
      → between (cond x (next a.lo) a.lo) (cond y (before a.hi) a.hi)
      ≡ between (cond x (a.lo +ℤ pos 1) a.lo) (cond y (a.hi -ℤ pos 1) a.hi)
  by true true low high =
      let same : a.lo ≡ a.hi = sym (only_means b a.lo low).0 ∙ (only_means b a.hi high).0 in
      let less : before a.hi <ℤ next a.lo =
      subst (λ z. before z <ℤ next a.lo) same (apart a.lo first) in
      none_between (next a.lo) (before a.hi) less
      ∙ sym (none_between (a.lo +ℤ pos 1) (a.hi -ℤ pos 1) (omega (arith, ints)))
  by true false low high = from_next a.lo a.hi first last (λ same.
      let it = only_means b a.lo low in
      absurd (cc (only_from b a.hi (it.0 ∙ same) (it.1 ∙ same), high)))
  by false true low high = to_before a.lo a.hi first last (λ same.
      let it = only_means b a.hi high in
      absurd (cc (only_from b a.lo (it.0 ∙ sym same) (it.1 ∙ sym same), low)))
  by false false low high = refl
