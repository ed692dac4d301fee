-- No bound leaves what is kept: so no sum of two wraps.
use Rattle.std.proofs.Common.{◌≡◌, ℕ, zero, suc, ◌*◌, ◌<◌, ◌≤◌, ℤ, pos, ◌+ℤ◌}
use Rattle.std.proofs.Common.{◌≤ℤ◌, true, List, length, sym, subst, arith}
use Rattle.std.proofs.Common.{inl, inr}
use Rattle.std.specs.Prelude.{int_le, ◌⊎◌}
use Rattle.std.specs.Int.{int_min}
use Rattle.std.specs.List.{All}
use Rattle.std.proofs.lemmas.Int.{ints, clamps}
use Rattle.std.proofs.lemmas.Bool.{and_parts, cases_lt}
use Rattle.cpa_zone_bounds.specs.Distances.{entry, IsKept}
use Rattle.cpa_zone_bounds.specs.Closures.{by_way, come_back, through}
use Rattle.cpa_zone_bounds.specs.lemmas.Numbers.{from_le}
use Rattle.cpa_zone_bounds.specs.lemmas.Places.{all_table, at_entry}
use Rattle.cpa_zone_bounds.specs.lemmas.Fillings.{IsByWay, filled_has, by_way_start, by_way_row}
use Rattle.cpa_zone_bounds.specs.lemmas.Fillings.{by_way_more, by_way_next, by_way_all, by_way_long}

-- what the test says of each row
pub back_at : (n k : ℕ) (most : List ℤ) (r i : ℕ) → i < r → come_back n k most r ≡ true
    → pos 0 ≤ℤ (entry n most i k +ℤ entry n most k i)
back_at n k most zero i h is = absurd (omega arith)
back_at n k most (suc r) i h is =
    let parts = and_parts (come_back n k most r)
    (int_le (pos 0) (entry n most r k +ℤ entry n most k r)) is in
    by parts.1 (λ less. back_at n k most r i less parts.0) (cases_lt i r) where
      by : int_le (pos 0) (entry n most r k +ℤ entry n most k r) ≡ true
          → (i < r → pos 0 ≤ℤ (entry n most i k +ℤ entry n most k i))
          → (i < r) ⊎ (r ≤ i) → pos 0 ≤ℤ (entry n most i k +ℤ entry n most k i)
      by last before (inl less) = before less
      by last before (inr more) =
          let e : r ≡ i = omega arith in
          subst (λ a. pos 0 ≤ℤ (entry n most a k +ℤ entry n most k a)) e
          (from_le (pos 0) (entry n most r k +ℤ entry n most k r) last)

-- a step of which the way back is not too long is not too short, so neither are two such steps
pub kept_sum : (own way next there back : ℤ) → IsKept own → IsKept way → IsKept next
    → IsKept there → IsKept back → pos 0 ≤ℤ (way +ℤ back) → pos 0 ≤ℤ (there +ℤ next)
    → IsKept (int_min own (way +ℤ next))
kept_sum own way next there back a b c d e f g =
    let a_low = a.low in let a_high = a.high in let b_high = b.high in let c_high = c.high in
    let d_high = d.high in let e_high = e.high in
    record { low = omega (arith, ints, clamps); high = omega (arith, ints, clamps) }

pub kept_way : (n k : ℕ) (most : List ℤ) → length most ≡ n * n → k < n → All IsKept most
    → come_back n k most n ≡ true → (i j : ℕ) → i < n → j < n → IsKept (by_way n k most i j)
kept_way n k most long mid all back i j row column =
    kept_sum (entry n most i j) (entry n most i k) (entry n most k j) (entry n most j k)
    (entry n most k i)
    (at_entry IsKept n most i j long row column all)
    (at_entry IsKept n most i k long row mid all)
    (at_entry IsKept n most k j long mid column all)
    (at_entry IsKept n most j k long column mid all)
    (at_entry IsKept n most k i long mid row all)
    (back_at n k most n i row back) (back_at n k most n j column back)

pub kept_through : (n k : ℕ) (most : List ℤ) → length most ≡ n * n → k < n → All IsKept most
    → come_back n k most n ≡ true → All IsKept (through n k most)
kept_through n k most long mid all back =
    all_table IsKept n (by_way n k most) (kept_way n k most long mid all back)

-- ---- each number differs from itself by 0

pub own_way_back : (ii ik ki : ℤ) → ii ≡ pos 0 → pos 0 ≤ℤ (ik +ℤ ki)
    → int_min ii (ik +ℤ ki) ≡ pos 0
own_way_back ii ik ki own back = omega (arith, ints, clamps, own)

-- what is written so far is kept
pub by_way_kept : (n k : ℕ) (old now : List ℤ) (place : ℕ) → length old ≡ n * n → k < n
    → All IsKept old → come_back n k old n ≡ true → IsByWay n k old now place → All IsKept now
by_way_kept n k old now place long mid all back it =
    filled_has IsKept n (by_way n k old) old now place long all
    (kept_way n k old long mid all back) it.so

-- what is read in a row and a column is kept
pub kept_at : (n i j : ℕ) (most : List ℤ) (d : ℤ) → d ≡ entry n most i j → length most ≡ n * n
    → i < n → j < n → All IsKept most → IsKept d
kept_at n i j most d is long row column all =
    subst IsKept (sym is) (at_entry IsKept n most i j long row column all)

pub ruleset by_way_rules = (
  by_way_start,
  by_way_row,
  by_way_more,
  by_way_next,
  by_way_all,
  by_way_long,
  by_way_kept,
)
