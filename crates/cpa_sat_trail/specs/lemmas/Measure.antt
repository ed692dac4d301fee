-- The measure rises with each literal, and with each jump that puts a forced literal in a
-- decision's place.
use Rattle.std.proofs.Common.{◌≡◌, ℕ, zero, suc, ◌+◌, ◌*◌, ◌^◌, ◌<◌, ◌≤◌, Bool, true}
use Rattle.std.proofs.Common.{false, cond, List, [], ◌∷◌, ◌++◌, take, length, get_or}
use Rattle.std.proofs.Common.{sym, ap, subst, arith}
use Rattle.std.specs.Prelude.{◌==◌, if◌then◌else◌}
use Rattle.std.proofs.lemmas.Bool.{eq-eqb, ne_eqb}
use Rattle.std.proofs.Math.Nat.{pow-succ'}
use Rattle.cpa_sat_arena.specs.declared.literal.TheConstants.{NO_CLAUSE}
use Rattle.cpa_sat_trail.specs.Progress.{weight}

abbrev mark : ℕ → ℕ
mark r = if r == NO_CLAUSE then 1 else 2

power_next : (n : ℕ) → 3 ^ suc n ≡ 3 * 3 ^ n
power_next n = pow-succ' 3 n

power_positive : (n : ℕ) → 0 < 3 ^ n
power_positive zero = omega arith
power_positive (suc n) = subst (λ q. 0 < q) (sym (power_next n)) (triple (3 ^ n) (power_positive n))
  where
    triple : (p : ℕ) → 0 < p → 0 < 3 * p
    triple p h = omega arith

scaled : (b : Bool) (p w : ℕ) → w < p → cond b 1 2 * p + w < 3 * p
scaled true p w k = omega arith
scaled false p w k = omega arith

pub weight_below : (n : ℕ) (rs : List ℕ) → weight n rs < 3 ^ n
weight_below zero rs = omega arith
weight_below (suc n) [] = power_positive (suc n)
weight_below (suc n) (r ∷ rs) =
    subst (λ q. mark r * 3 ^ n + weight n rs < q) (sym (power_next n))
    (scaled (r == NO_CLAUSE) (3 ^ n) (weight n rs) (weight_below n rs))

more_than_none : (b : Bool) (p w : ℕ) → 0 < p → 0 < cond b 1 2 * p + w
more_than_none true p w k = omega arith
more_than_none false p w k = omega arith

pub weight_push : (n : ℕ) (rs : List ℕ) (r : ℕ) → length rs < n
    → weight n rs < weight n (rs ++ r ∷ [])
weight_push zero rs r h = absurd (omega arith)
weight_push (suc n) [] r h = more_than_none (r == NO_CLAUSE) (3 ^ n) (weight n [])
    (power_positive n)
weight_push (suc n) (x ∷ rs) r h = under (mark x * 3 ^ n) (weight n rs) (weight n (rs ++ r ∷ []))
    (weight_push n rs r (omega arith))
  where
    under : (a b c : ℕ) → b < c → a + b < a + c
    under a b c k = omega arith

jump_here : (a b p w v : ℕ) → a ≡ 1 → b ≡ 2 → w < p → a * p + w < b * p + v
jump_here a b p w v e f h = omega (arith, ap (λ x. x * p) e, ap (λ x. x * p) f)

pub weight_jump : (n : ℕ) (rs : List ℕ) (p r : ℕ) → p < length rs → length rs ≤ n
    → get_or rs p 0 ≡ NO_CLAUSE → (r ≡ NO_CLAUSE → ⊥)
    → weight n rs < weight n (take p rs ++ r ∷ [])
weight_jump zero rs p r h k e ne = absurd (omega arith)
weight_jump (suc n) [] p r h k e ne = absurd (omega arith)
weight_jump (suc n) (x ∷ rs) zero r h k e ne =
    jump_here (mark x) (mark r) (3 ^ n) (weight n rs) (weight n [])
    (ap (λ b. cond b 1 2) (eq-eqb x NO_CLAUSE e)) (ap (λ b. cond b 1 2) (ne_eqb r NO_CLAUSE ne))
    (weight_below n rs)
weight_jump (suc n) (x ∷ rs) (suc p) r h k e ne =
    under (mark x * 3 ^ n) (weight n rs) (weight n (take p rs ++ r ∷ []))
    (weight_jump n rs p r (omega arith) (omega arith) e ne)
  where
    under : (a b c : ℕ) → b < c → a + b < a + c
    under a b c q = omega arith
