-- The places of items that pass, where only a part of the list is looked at (`skipped`, `ended`).
use Rattle.std.proofs.Common.{◌≡◌, ℕ, zero, suc, ◌+◌, ◌<◌, ◌≤◌, Bool, true, false, List, [], ◌∷◌}
use Rattle.std.proofs.Common.{◌++◌, map, drop, Some, slice_get, refl, sym, ap, ◌∙◌, arith}
use Rattle.std.proofs.Common.{append_assoc}
use Rattle.std.specs.Prelude.{if◌then◌else◌}
use Rattle.cpa_recheck_obligations.specs.Obligations.{places_from}

module _ {A : Type 0} (test : A → Bool) where
  at_item : (k : ℕ) (x : A) (xs : List A) (b : Bool) → test x ≡ b
      → places_from test k (x ∷ xs)
      ≡ (if b then k ∷ places_from test (k + 1) xs else places_from test (k + 1) xs)
  at_item k x xs b is =
      ap (λ c. if c then k ∷ places_from test (k + 1) xs else places_from test (k + 1) xs) is

  -- where none before a place passes, the list may be entered there
  pub skipped : (xs : List A) (k i : ℕ)
      → ((j : ℕ) (x : A) → slice_get xs j ≡ Some x → test x ≡ true → i ≤ j)
      → places_from test (k + i) (drop i xs) ≡ places_from test k xs
  skipped xs k zero none = let same : k + 0 ≡ k = omega arith in ap
      (λ n. places_from test n xs) same
  skipped [] k (suc i) none = refl
  skipped (x ∷ xs) k (suc i) none =
      let same : k + suc i ≡ (k + 1) + i = omega arith in
      ap (λ n. places_from test n (drop i xs)) same
      ∙ (skipped xs (k + 1) i
      (λ j y at passes. let far = none (suc j) y at passes in omega (arith, far))
      ∙ by (test x) refl)
    where
      by : (b : Bool) → test x ≡ b → places_from test (k + 1) xs ≡ places_from test k (x ∷ xs)
      by true is = let far = none 0 x refl is in absurd (omega (arith, far))
      by false is = sym (at_item k x xs false is)

  none_pass : (xs : List A) (k : ℕ) → ((j : ℕ) (x : A) → slice_get xs j ≡ Some x
      → test x ≡ true → ⊥) → places_from test k xs ≡ []
  none_pass [] k none = refl
  none_pass (x ∷ xs) k none =
      by (test x) refl (none_pass xs (k + 1) (λ j y at passes. none (suc j) y at passes))
    where
      by : (b : Bool) → test x ≡ b → places_from test (k + 1) xs ≡ []
          → places_from test k (x ∷ xs) ≡ []
      by true is rest = absurd (none 0 x refl is)
      by false is rest = at_item k x xs false is ∙ rest

  -- where none from a place on passes, nothing is left there
  pub ended : (xs : List A) (k i : ℕ)
      → ((j : ℕ) (x : A) → slice_get xs j ≡ Some x → test x ≡ true → j < i)
      → places_from test k (drop i xs) ≡ []
  ended xs k zero none =
      none_pass xs k (λ j x at passes. let less = none j x at passes in omega (arith, less))
  ended [] k (suc i) none = refl
  ended (x ∷ xs) k (suc i) none =
      ended xs k i (λ j y at passes. let less = none (suc j) y at passes in omega (arith, less))

  -- the item at a place comes next
  next_is : (xs : List A) (i : ℕ) (x : A) → slice_get xs i ≡ Some x → drop i xs ≡ x ∷ drop
      (i + 1) xs
  next_is [] i x at = absurd (cc)
  next_is (y ∷ xs) zero x at = let same : y ≡ x = cc in ap (λ z. z ∷ xs) same
  next_is (y ∷ xs) (suc i) x at =
      let one : suc i + 1 ≡ suc (i + 1) = omega arith in
      next_is xs i x at ∙ ap (λ n. x ∷ drop n (y ∷ xs)) (sym one)

  -- one item more of what is gathered
  module _ {B : Type 0} (f : ℕ → B) (list : List B) (xs : List A) (i : ℕ) (x : A) (all : List B)
      (at : slice_get xs i ≡ Some x)
      (left : list ++ map f (places_from test i (drop i xs)) ≡ all) where
    abbrev Left : List B → Type 0
    Left now = now ++ map f (places_from test (i + 1) (drop (i + 1) xs)) ≡ all

    items : (b : Bool) → test x ≡ b
        → places_from test i (drop i xs)
        ≡ (if b then i ∷ places_from test (i + 1) (drop (i + 1) xs)
        else places_from test (i + 1) (drop (i + 1) xs))
    items b is = ap (places_from test i) (next_is xs i x at) ∙ at_item i x (drop (i + 1) xs) b is

    pub taken : test x ≡ true → Left (list ++ f i ∷ [])
    taken is =
        append_assoc list (f i ∷ []) (map f (places_from test (i + 1) (drop (i + 1) xs)))
        ∙ (ap (λ ns. list ++ map f ns) (sym (items true is)) ∙ left)

    pub passed : test x ≡ false → Left list
    passed is = ap (λ ns. list ++ map f ns) (sym (items false is)) ∙ left
