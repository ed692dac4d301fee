-- The cuts rise, and two neighbours differ by the quotient or by one more.
use Rattle.std.proofs.Common.{◌≡◌, ℕ, ◌+◌, ◌*◌, ◌/◌, ◌<◌, ◌≤◌, arith}
use Rattle.std.proofs.Math.Nat.{add-mul, div-mul-le_self, div-le_self}
use Rattle.std.proofs.lemmas.Nat.{le-div, div_below, mod_below, mul-le}
use native.Mathlib.Nat.{div-add-mod', mul-div_cancel_left}
use Rattle.cpa_audit.specs.Cuts.{cut}

pub cuts_rise : (n w p q : ℕ) → 0 < w → p ≤ q → cut n w p ≤ cut n w q
cuts_rise n w p q some up =
    let whole = div-mul-le_self (p * n) w in
    let more = mul-le p n q n up (omega arith) in
    le-div (p * n / w) (q * n) w some (omega (arith, whole, more))

pub cut_first : (n w : ℕ) → cut n w 0 ≡ 0
cut_first n w = omega (arith, div-le_self (0 * n) w)

pub cut_last : (n w : ℕ) → 0 < w → cut n w w ≡ n
cut_last n w some = mul-div_cancel_left n some

at_least : (n w p : ℕ) → 0 < w → cut n w p + n / w ≤ cut n w (p + 1)
at_least n w p some =
    let front = div-mul-le_self (p * n) w in
    let one = div-mul-le_self n w in
    le-div (p * n / w + n / w) ((p + 1) * n) w some
    (omega (arith, front, one, add-mul (p * n / w) (n / w) w, add-mul p 1 n))

at_most : (n w p : ℕ) → 0 < w → cut n w (p + 1) ≤ cut n w p + n / w + 1
at_most n w p some =
    let front = div-add-mod' (p * n) w in
    let one = div-add-mod' n w in
    let below = div_below ((p + 1) * n) w (p * n / w + n / w + 2) some
    (omega (
      arith,
      front,
      one,
      mod_below (p * n) w some,
      mod_below n w some,
      add-mul (p * n / w + n / w) 2 w,
      add-mul (p * n / w) (n / w) w,
      add-mul p 1 n,
    )) in
    omega (arith, below)

pub even : (n w p : ℕ) → 0 < w
    → (cut n w p + n / w ≤ cut n w (p + 1)) × (cut n w (p + 1) ≤ cut n w p + n / w + 1)
even n w p some = (at_least n w p some, at_most n w p some)
