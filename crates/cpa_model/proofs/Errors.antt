-- What a binary search finds among the points of errors.
use Rattle.std.proofs.Common.{◌≡◌, ℕ, ◌<◌, ◌≤◌, List, length, get_or, Result}
use Rattle.std.proofs.Common.{Ok, Err, true, refl, ◌∙◌, ⊎_elim, arith}
use Rattle.std.specs.List.{Contains}
use Rattle.std.specs.List.Sorted.{IsBinarySearchResult}
use Rattle.std.specs.Ordering.{nat_cmp}
use Rattle.std.specs.Result.{is_ok}
use Rattle.std.proofs.lemmas.Bool.{cases_lt}
use Rattle.std.proofs.lemmas.List.{get_or_default}
use Rattle.std.proofs.lemmas.List.Sorted.{searched}
use Rattle.cpa_model.specs.Ascending.{AreAscending}
use Rattle.cpa_model.specs.lemmas.Ascending.{ascending_by_place}

pub found_exactly : (ns : List ℕ) (n : ℕ) (r : Result ℕ ℕ) → AreAscending ns
    → IsBinarySearchResult (λ m. nat_cmp m n) ns r
    → (is_ok r ≡ true → Contains ns n) × (Contains ns n → is_ok r ≡ true)
found_exactly ns n (Ok i) up h =
    let at : (i < length ns) × (get_or ns i 0 ≡ n) =
    searched ns n (Ok i) h (ascending_by_place ns up) in
    (λ _. (i, at.0, get_or_default ns i n 0 at.0 ∙ at.1), λ _. refl)
found_exactly ns n (Err i) up h =
    let gap : (i ≤ length ns) × ((k : ℕ) → k < i → get_or ns k 0 < n)
    × ((k : ℕ) → i ≤ k → k < length ns → n < get_or ns k 0) =
    searched ns n (Err i) h (ascending_by_place ns up) in (
      λ wrong. absurd (cc),
      λ in_list.
          let at : get_or ns in_list.0 0 ≡ n =
          get_or_default ns in_list.0 0 n in_list.1 ∙ in_list.2 in
          ⊎_elim
          (λ less. let low = gap.1 in_list.0 less in absurd (omega (arith, low, at)))
          (λ more. let high = gap.2 in_list.0 more in_list.1 in absurd (omega (arith, high, at)))
          (cases_lt in_list.0 i),
    )
