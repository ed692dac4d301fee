-- What holds of the places of the items that pass a test, and of lists that are put together.
use Rattle.std.proofs.Common.{◌≡◌, ℕ, zero, suc, ◌+◌, Bool, true, false, List, [], ◌∷◌}
use Rattle.std.proofs.Common.{map, Some, slice_get, refl, ap, ◌∙◌, subst, arith}
use Rattle.std.specs.Prelude.{if◌then◌else◌}
use Rattle.std.specs.List.{AllByRecursion, flat_map}
use Rattle.cpa_form_rules.specs.lemmas.Lists.{all_both, all_parts}
use Rattle.cpa_recheck_obligations.specs.Obligations.{places_from}

module _ {A : Type 0} (Q : ℕ → Type 0) (test : A → Bool) where
  -- what holds at each item that passes holds of each place
  pub all_places : (k : ℕ) (xs : List A)
      → ((i : ℕ) (x : A) → slice_get xs i ≡ Some x → test x ≡ true → Q (k + i))
      → AllByRecursion Q (places_from test k xs)
  all_places k [] h = tt
  all_places k (x ∷ xs) h =
      by (test x) refl
      (all_places (k + 1) xs (λ i y at passes.
      let same : k + suc i ≡ (k + 1) + i = omega arith in
      subst Q same (h (suc i) y at passes)))
    where
      by : (b : Bool) → test x ≡ b → AllByRecursion Q (places_from test (k + 1) xs)
          → AllByRecursion Q
          (if b then k ∷ places_from test (k + 1) xs else places_from test (k + 1) xs)
      by true is later =
          let same : k + 0 ≡ k = omega arith in (subst Q same (h 0 x refl is), later)
      by false is later = later

  -- what holds of each place holds at each item that passes
  pub at_places : (k : ℕ) (xs : List A) (i : ℕ) (x : A) → slice_get xs i ≡ Some x → test x ≡ true
      → AllByRecursion Q (places_from test k xs) → Q (k + i)
  at_places k [] i x at passes all = absurd (cc)
  at_places k (y ∷ xs) zero x at passes all =
      let same : y ≡ x = cc in
      let here = subst
      (λ b. AllByRecursion Q
      (if b then k ∷ places_from test (k + 1) xs else places_from test (k + 1) xs))
      (ap test same ∙ passes) all in
      let none : k ≡ k + 0 = omega arith in subst Q none here.0
  at_places k (y ∷ xs) (suc i) x at passes all =
      let same : (k + 1) + i ≡ k + suc i = omega arith in
      subst Q same (at_places (k + 1) xs i x at passes (by (test y) all))
    where
      by : (b : Bool)
          → AllByRecursion Q
          (if b then k ∷ places_from test (k + 1) xs else places_from test (k + 1) xs)
          → AllByRecursion Q (places_from test (k + 1) xs)
      by true all = all.1
      by false all = all

module _ {A B : Type 0} (P : B → Type 0) where
  pub all_map : (f : A → B) (xs : List A) → AllByRecursion (λ x. P (f x)) xs
      → AllByRecursion P (map f xs)
  all_map f [] h = tt
  all_map f (x ∷ xs) h = (h.0, all_map f xs h.1)

  pub map_all : (f : A → B) (xs : List A) → AllByRecursion P (map f xs)
      → AllByRecursion (λ x. P (f x)) xs
  map_all f [] h = tt
  map_all f (x ∷ xs) h = (h.0, map_all f xs h.1)

  pub all_flat : (f : A → List B) (xs : List A) → AllByRecursion (λ x. AllByRecursion P (f x)) xs
      → AllByRecursion P (flat_map f xs)
  all_flat f [] h = tt
  all_flat f (x ∷ xs) h = all_both P (f x) (flat_map f xs) h.0 (all_flat f xs h.1)

  pub flat_all : (f : A → List B) (xs : List A) → AllByRecursion P (flat_map f xs)
      → AllByRecursion (λ x. AllByRecursion P (f x)) xs
  flat_all f [] h = tt
  flat_all f (x ∷ xs) h =
      let parts = all_parts P (f x) (flat_map f xs) h in (parts.0, flat_all f xs parts.1)

-- what follows at each item
pub all_so : {A : Type 0} (P Q : A → Type 0) → ((x : A) → P x → Q x) → (xs : List A)
    → AllByRecursion P xs → AllByRecursion Q xs
all_so P Q so [] h = tt
all_so P Q so (x ∷ xs) h = (so x h.0, all_so P Q so xs h.1)

pub all_of : {A : Type 0} (Q : A → Type 0) → ((x : A) → Q x) → (xs : List A) → AllByRecursion Q xs
all_of Q so [] = tt
all_of Q so (x ∷ xs) = (so x, all_of Q so xs)
