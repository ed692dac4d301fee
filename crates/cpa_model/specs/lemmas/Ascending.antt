-- Numbers in order do not fall from one place to a later one, and stay in order with a greater one
-- behind them.
use Rattle.std.proofs.Common.{ℕ, zero, suc, ◌<◌, ◌≤◌, List, [], ◌∷◌, ◌++◌, length, get_or, arith}
use Rattle.std.specs.List.{AllByRecursion}
use Rattle.std.proofs.lemmas.List.Elements.{All-from_recursion}
use Rattle.cpa_model.specs.Ascending.{AreAscending}
use Rattle.cpa_model.specs.lemmas.Lists.{AllByRecursion-push}

pub ascending_by_place : (ns : List ℕ) → AreAscending ns → (i j : ℕ) → i ≤ j → j < length ns
    → get_or ns i 0 ≤ get_or ns j 0
ascending_by_place [] up i j le less = absurd (omega arith)
ascending_by_place (n ∷ ns) up zero zero le less = omega arith
ascending_by_place (n ∷ ns) up zero (suc j) le less =
    let above = All-from_recursion (λ (m : ℕ). n < m) ns up.0 j 0 (omega arith) in
    omega (arith, above)
ascending_by_place (n ∷ ns) up (suc i) zero le less = absurd (omega arith)
ascending_by_place (n ∷ ns) up (suc i) (suc j) le less =
    ascending_by_place ns up.1 i j (omega arith) (omega arith)

pub ascending_push : (ns : List ℕ) (k : ℕ) → AreAscending ns → AllByRecursion (λ n. n < k) ns
    → AreAscending (ns ++ k ∷ [])
ascending_push [] k up below = (tt, tt)
ascending_push (n ∷ ns) k up below =
    (AllByRecursion-push (λ m. n < m) ns k up.0 below.0, ascending_push ns k up.1 below.1)
