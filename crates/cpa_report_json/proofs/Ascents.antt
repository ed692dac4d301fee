-- Numbers ascend where each is below the next.
use Rattle.std.proofs.Common.{ℕ, ◌<◌, List, [], ◌∷◌, arith}
use Rattle.std.specs.List.{AllByRecursion}
use Rattle.cpa_model.specs.Ascending.{AreAscending}
use Rattle.cpa_report_json.specs.Taking.{IsBelowFirst}

above : (n m : ℕ) (ms : List ℕ) → n < m → AllByRecursion (λ k. m < k) ms
    → AllByRecursion (λ k. n < k) ms
above n m [] below all = tt
above n m (k ∷ ms) below all = (omega (arith, all.0), above n m ms below all.1)

pub ascends : (n : ℕ) (ns : List ℕ) → IsBelowFirst n ns → AreAscending ns → AreAscending (n ∷ ns)
ascends n [] below a = (tt, tt)
ascends n (m ∷ ms) below a = ((below, above n m ms below a.0), a)

pub is_below : (n : ℕ) (ns : List ℕ) → AreAscending (n ∷ ns) → IsBelowFirst n ns
is_below n [] a = tt
is_below n (m ∷ ms) a = a.0.0
