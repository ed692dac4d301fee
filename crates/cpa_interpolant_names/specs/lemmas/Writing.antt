-- What stands in a list after values were written into it.
use Rattle.std.proofs.Common.{◌≡◌, ℕ, zero, suc, ◌+◌, ◌<◌, List, [], ◌∷◌, length, replicate}
use Rattle.std.proofs.Common.{Option, None, Some, slice_get, refl, sym, ap, ◌∙◌, subst, arith, ◌⊎◌}
use Rattle.std.proofs.Common.{inl, inr}
use Rattle.std.specs.Prelude.{slice_set}
use Rattle.std.proofs.lemmas.Option.{slice_get_within}
use Rattle.cpa_form_rules.specs.lemmas.Places.{set_long, set_here, set_apart, same_or}
use Rattle.cpa_interpolant_names.specs.declared.gathering.Meeting.{Meeting}
use Rattle.cpa_interpolant_names.specs.Meetings.{written, all_written}

same_entry : {A : Type 0} (x y : A) → Some (Some x) ≡ Some (Some y) → x ≡ y
same_entry x y e = cc

module _ (A : Type 0) where
  set_within : (xs : List (Option A)) (i v : ℕ) (x : Option A) (y : Option A)
      → slice_get (slice_set xs i x) v ≡ Some y → v < length xs
  set_within xs i v x y is =
      let inside = slice_get_within (slice_set xs i x) v y is in
      let long = set_long xs i x in omega (arith, inside, long)

  -- an entry that stands there was there, or was written
  from_written : (xs : List (Option A)) (start : ℕ) (value : ℕ → A) (n v : ℕ) (x : A)
      → slice_get (written xs start value n) v ≡ Some (Some x)
      → (slice_get xs v ≡ Some (Some x))
      ⊎ ((j : ℕ) × (j < n) × (v ≡ start + j) × (x ≡ value j))
  from_written xs start value zero v x is = inl is
  from_written xs start value (suc n) v x is =
      let before = written xs start value n in
      elim (same_or v (start + n)) [
        | inl here ↦
            let inside = set_within before (start + n) v (Some (value n)) (Some x) is in
            let found = set_here before (start + n) (Some (value n))
            (subst (λ k. k < length before) here inside) in
            inr (
              n,
              omega arith,
              here,
              same_entry x (value n)
                  (sym is ∙ (ap (λ k. slice_get
                  (slice_set before (start + n) (Some (value n))) k) here
                  ∙ found)),
            )
        | inr other ↦
            elim (from_written xs start value n v x
            (sym (set_apart before (start + n) v (Some (value n)) other) ∙ is)) [
              | inl was ↦ inl was
              | inr (j, below, at, value_is) ↦ inr (j, omega (arith, below), at, value_is)
            ]
      ]

  written_long : (xs : List (Option A)) (start : ℕ) (value : ℕ → A) (n : ℕ)
      → length (written xs start value n) ≡ length xs
  written_long xs start value zero = refl
  written_long xs start value (suc n) =
      set_long (written xs start value n) (start + n) (Some (value n))
      ∙ written_long xs start value n

  -- where only this is written at a place, it stands there if it stood there
  still_written : (xs : List (Option A)) (start : ℕ) (value : ℕ → A) (n v : ℕ) (x : A)
      → ((j : ℕ) → j < n → v ≡ start + j → value j ≡ x) → slice_get xs v ≡ Some (Some x)
      → slice_get (written xs start value n) v ≡ Some (Some x)
  still_written xs start value zero v x right is = is
  still_written xs start value (suc n) v x right is =
      let before = written xs start value n in
      elim (same_or v (start + n)) [
        | inl here ↦
            let inside = slice_get_within xs v (Some x) is in
            let long = written_long xs start value n in
            ap (λ k. slice_get (slice_set before (start + n) (Some (value n))) k) here
            ∙ (set_here before (start + n) (Some (value n))
            (omega (arith, inside, long, here)) ∙ ap (λ y. Some (Some y))
            (right n (omega arith) here))
        | inr other ↦
            set_apart before (start + n) v (Some (value n)) other
            ∙ still_written xs start value n v x (λ j h. right j (omega (arith, h))) is
      ]

  -- and if it is written there
  now_written : (xs : List (Option A)) (start : ℕ) (value : ℕ → A) (n j : ℕ) (x : A)
      → ((i : ℕ) → i < n → start + j ≡ start + i → value i ≡ x) → j < n
      → start + j < length xs → slice_get (written xs start value n) (start + j) ≡ Some (Some x)
  now_written xs start value zero j x right below inside = absurd (omega (arith, below))
  now_written xs start value (suc n) j x right below inside =
      let before = written xs start value n in
      elim (same_or (start + j) (start + n)) [
        | inl here ↦
            let long = written_long xs start value n in
            ap (λ k. slice_get (slice_set before (start + n) (Some (value n))) k) here
            ∙ (set_here before (start + n) (Some (value n))
            (omega (arith, inside, long, here)) ∙ ap (λ y. Some (Some y))
            (right n (omega arith) here))
        | inr other ↦
            set_apart before (start + n) (start + j) (Some (value n)) other
            ∙ now_written xs start value n j x (λ i h. right i (omega (arith, h)))
            (lower j n start below other) inside
      ]
    where
      lower : (j n start : ℕ) → j < suc n → (start + j ≡ start + n → ⊥) → j < n
      lower j n start below other = elim (same_or j n) [
        | inl same ↦ absurd (other (ap (λ k. start + k) same))
        | inr apart ↦ grind (arith, below, apart)
      ]

  -- ---- for each meeting

  module _ (start : Meeting → ℕ) (value : Meeting → ℕ → A) (count : Meeting → ℕ) where
    abbrev Writes : List Meeting → ℕ → A → Type 0
    Writes ms v x =
        (k : ℕ) × (m : Meeting) × (j : ℕ) × (slice_get ms k ≡ Some m) × (j < count m)
        × (v ≡ start m + j) × (x ≡ value m j)

    -- only this is written at the place
    abbrev IsRight : List Meeting → ℕ → A → Type 0
    IsRight ms v x =
        (k : ℕ) (m : Meeting) (j : ℕ) → slice_get ms k ≡ Some m → j < count m
        → v ≡ start m + j → value m j ≡ x

    pub from_all : (ms : List Meeting) (xs : List (Option A)) (v : ℕ) (x : A)
        → slice_get (all_written start value count xs ms) v ≡ Some (Some x)
        → (slice_get xs v ≡ Some (Some x)) ⊎ Writes ms v x
    from_all [] xs v x is = inl is
    from_all (m ∷ ms) xs v x is =
        elim (from_all ms (written xs (start m) (value m) (count m)) v x is) [
          | inr (k, n, j, at, below, place, value_is) ↦
              inr (suc k, n, j, at, below, place, value_is)
          | inl was ↦ elim (from_written xs (start m) (value m) (count m) v x was) [
            | inl before ↦ inl before
            | inr (j, below, place, value_is) ↦ inr (0, m, j, refl, below, place, value_is)
          ]
        ]

    still_all : (ms : List Meeting) (xs : List (Option A)) (v : ℕ) (x : A) → IsRight ms v x
        → slice_get xs v ≡ Some (Some x)
        → slice_get (all_written start value count xs ms) v ≡ Some (Some x)
    still_all [] xs v x right is = is
    still_all (m ∷ ms) xs v x right is =
        still_all ms (written xs (start m) (value m) (count m)) v x
        (λ k n j at. right (suc k) n j at)
        (still_written xs (start m) (value m) (count m) v x (λ j h e. right 0 m j refl h e) is)

    pub into_all : (ms : List Meeting) (xs : List (Option A)) (v : ℕ) (x : A) → IsRight ms v x
        → v < length xs → (k : ℕ) (m : Meeting) (j : ℕ) → slice_get ms k ≡ Some m → j < count m
        → v ≡ start m + j
        → slice_get (all_written start value count xs ms) v ≡ Some (Some x)
    into_all [] xs v x right inside k m j at below place = absurd (cc)
    into_all (n ∷ ms) xs v x right inside zero m j at below place =
        let same : n ≡ m = cc in
        still_all ms (written xs (start n) (value n) (count n)) v x
        (λ k n j at. right (suc k) n j at)
        (subst (λ u. slice_get (written xs (start n) (value n) (count n)) u ≡ Some (Some x))
        (sym (place ∙ ap (λ u. start u + j) (sym same)))
        (now_written xs (start n) (value n) (count n) j x
        (λ i h e. right 0 n i refl h (place ∙ (ap (λ u. start u + j) (sym same) ∙ e)))
        (subst (λ u. j < count u) (sym same) below)
        (subst (λ u. u < length xs) (place ∙ ap (λ u. start u + j) (sym same)) inside)))
    into_all (n ∷ ms) xs v x right inside (suc k) m j at below place =
        into_all ms (written xs (start n) (value n) (count n)) v x
        (λ i u h e. right (suc i) u h e)
        (subst (λ l. v < l) (sym (written_long xs (start n) (value n) (count n))) inside) k m j at
        below place

-- nothing stands in a list of none
pub none_there : {A : Type 0} (n v : ℕ) (x : A) → slice_get (replicate n None) v ≡ Some (Some x)
    → ⊥
none_there zero v x is = absurd (cc)
none_there (suc n) zero x is = absurd (cc)
none_there (suc n) (suc v) x is = none_there n v x is
