-- Places that move, and the store that they show then.
use Rattle.std.proofs.Common.{◌≡◌, ◌≢◌, ℕ, zero, suc, ◌+◌, ◌<◌, ◌≤◌, ◌==◌, ℤ, Bool, true, false}
use Rattle.std.proofs.Common.{List, [], ◌∷◌, length, Some, slice_get, refl, sym, ap, ◌∙◌, subst}
use Rattle.std.proofs.Common.{arith, ◌⊎◌, inl, inr}
use Rattle.std.specs.Prelude.{slice_set}
use Rattle.std.proofs.lemmas.Bool.{eqb-true, eq-eqb}
use Rattle.cpa_ints.specs.declared.integers.IntType.{IntType}
use Rattle.cpa_form_renaming.specs.declared.places.Place.{Place}
use Rattle.cpa_form_renaming.specs.Places.{number_of, number_at, Shows}
use Rattle.cpa_form_rules.specs.Drafts.{place_at, moved}
use Rattle.cpa_form_rules.specs.lemmas.Copies.{Stand, types_at}

-- ---- a list that is set

pub set_long : {A : Type 0} (xs : List A) (i : ℕ) (x : A) → length (slice_set xs i x) ≡ length xs
set_long [] i x = refl
set_long (y ∷ xs) zero x = refl
set_long (y ∷ xs) (suc i) x = ap suc (set_long xs i x)

pub set_here : {A : Type 0} (xs : List A) (i : ℕ) (x : A) → i < length xs
    → slice_get (slice_set xs i x) i ≡ Some x
set_here [] i x h = absurd (omega (arith, h))
set_here (y ∷ xs) zero x h = refl
set_here (y ∷ xs) (suc i) x h = set_here xs i x (omega (arith, h))

pub set_apart : {A : Type 0} (xs : List A) (i k : ℕ) (x : A) → k ≢ i
    → slice_get (slice_set xs i x) k ≡ slice_get xs k
set_apart [] i k x h = refl
set_apart (y ∷ xs) zero zero x h = absurd (h refl)
set_apart (y ∷ xs) zero (suc k) x h = refl
set_apart (y ∷ xs) (suc i) zero x h = refl
set_apart (y ∷ xs) (suc i) (suc k) x h = set_apart xs i k x (λ e. h (ap suc e))

-- to set what is there changes nothing
pub set_own : {A : Type 0} (xs : List A) (i : ℕ) (x : A) → slice_get xs i ≡ Some x
    → slice_set xs i x ≡ xs
set_own [] i x h = refl
set_own (y ∷ xs) zero x h = let same : y ≡ x = cc in ap (λ z. z ∷ xs) (sym same)
set_own (y ∷ xs) (suc i) x h = ap (λ zs. y ∷ zs) (set_own xs i x h)

-- ---- one place moves

pub same_or : (i k : ℕ) → (i ≡ k) ⊎ (i ≢ k)
same_or i k = by (i == k) refl
  where
    by : (b : Bool) → (i == k) ≡ b → (i ≡ k) ⊎ (i ≢ k)
    by true e = inl (eqb-true i k e)
    by false e = inr (λ is. let same = eq-eqb i k is in absurd (cc))

pub shows_set : (places : List Place) (values store : List ℤ) (cell number : ℕ) (t : IntType) (v :
    ℤ)
    → Shows places values store → slice_get values number ≡ Some v
    → Shows (slice_set places cell (place_at number t)) values (slice_set store cell v)
shows_set places values store cell number t v shows here = record {
  long = set_long store cell v ∙ (shows.long ∙ sym (set_long places cell (place_at number t)));
  at = λ c below.
      let inside : c < length places =
      subst (λ n. c < n) (set_long places cell (place_at number t)) below in
      elim (same_or c cell) [
        | inl is ↦ subst (λ k. slice_get values
            (number_at (slice_set places cell (place_at number t)) k)
            ≡ slice_get (slice_set store cell v) k) (sym is)
            (ap (λ p. slice_get values (number_of p)) (set_here places cell (place_at number t)
            (subst (λ k. k < length places) is inside))
            ∙ (here ∙ sym (set_here store cell v (subst (λ n. cell < n) (sym shows.long)
            (subst (λ k. k < length places) is inside)))))
        | inr apart ↦ ap (λ p. slice_get values (number_of p))
            (set_apart places cell c (place_at number t) apart)
            ∙ (shows.at c inside ∙ sym (set_apart store cell c v apart))
      ];
}

pub stand_set : (cells : List IntType) (places : List Place) (cell number : ℕ) (t : IntType)
    → Stand cells places → slice_get cells number ≡ Some t
    → Stand cells (slice_set places cell (place_at number t))
stand_set cells [] cell number t h here = tt
stand_set cells (p ∷ places) zero number t h here = (here, h.1)
stand_set cells (p ∷ places) (suc cell) number t h here =
    (h.0, stand_set cells places cell number t h.1 here)

pub types_set : (places : List Place) (cell number : ℕ) (t : IntType)
    → slice_get (types_at places) cell ≡ Some t
    → types_at (slice_set places cell (place_at number t)) ≡ types_at places
types_set [] cell number t h = refl
types_set (p ∷ places) zero number t h =
    let same : p.ty ≡ t = cc in ap (λ u. u ∷ types_at places) (sym same)
types_set (p ∷ places) (suc cell) number t h =
    ap (λ ts. p.ty ∷ ts) (types_set places cell number t h)

-- ---- the places of an array move

-- the store with the values of the first i cells of the array
abbrev pub patched : (ℕ → ℤ) → ℕ → List ℤ → ℕ → List ℤ
patched f base store zero = store
patched f base store (suc i) = slice_set (patched f base store i) (base + i) (f i)

pub shows_moved : (places : List Place) (values store : List ℤ) (base first : ℕ) (t : IntType)
    (f : ℕ → ℤ) (n : ℕ) → Shows places values store
    → ((i : ℕ) → i < n → slice_get values (first + i) ≡ Some (f i))
    → Shows (moved base first t n places) values (patched f base store n)
shows_moved places values store base first t f zero shows each = shows
shows_moved places values store base first t f (suc n) shows each =
    shows_set (moved base first t n places) values (patched f base store n) (base + n) (first + n) t
    (f n) (shows_moved places values store base first t f n shows (λ i below.
    each i (omega (arith, below)))) (each n (omega arith))

pub stand_moved : (cells : List IntType) (places : List Place) (base first : ℕ) (t : IntType) (n :
    ℕ)
    → Stand cells places → ((i : ℕ) → i < n → slice_get cells (first + i) ≡ Some t)
    → Stand cells (moved base first t n places)
stand_moved cells places base first t zero h each = h
stand_moved cells places base first t (suc n) h each =
    stand_set cells (moved base first t n places) (base + n) (first + n) t
    (stand_moved cells places base first t n h (λ i below. each i (omega (arith, below))))
    (each n (omega arith))

pub types_moved : (places : List Place) (base first : ℕ) (t : IntType) (n : ℕ)
    → ((i : ℕ) → i < n → slice_get (types_at places) (base + i) ≡ Some t)
    → types_at (moved base first t n places) ≡ types_at places
types_moved places base first t zero each = refl
types_moved places base first t (suc n) each =
    let before = types_moved places base first t n (λ i below. each i (omega (arith, below))) in
    types_set (moved base first t n places) (base + n) (first + n) t
    (ap (λ ts. slice_get ts (base + n)) before ∙ each n (omega arith))
    ∙ before

-- where all cells but the one at k have their own values, the store is set at k
module _ (f : ℕ → ℤ) (base len : ℕ) (store : List ℤ) (k : ℕ) (inside : k < len)
    (own : (i : ℕ) → i < len → i ≢ k → slice_get store (base + i) ≡ Some (f i)) where
  untouched : (n : ℕ) → n ≤ k → patched f base store n ≡ store
  untouched zero h = refl
  untouched (suc n) h =
      ap (λ s. slice_set s (base + n) (f n)) (untouched n (omega (arith, h)))
      ∙ set_own store (base + n) (f n)
      (own n (omega (arith, h, inside)) (λ is. absurd (omega (arith, h, is))))

  pub patched_is : (n : ℕ) → k < n → n ≤ len
      → patched f base store n ≡ slice_set store (base + k) (f k)
  patched_is zero h least = absurd (omega (arith, h))
  patched_is (suc n) h least =
      elim (same_or n k) [
        | inl is ↦ subst (λ m. slice_set (patched f base store m) (base + m) (f m)
            ≡ slice_set store (base + k) (f k)) (sym is)
            (ap (λ s. slice_set s (base + k) (f k)) (untouched k (omega arith)))
        | inr apart ↦
            let above : k < n = grind (arith, h, apart) in
            ap (λ s. slice_set s (base + n) (f n)) (patched_is n above (omega (arith, least)))
            ∙ set_own (slice_set store (base + k) (f k)) (base + n) (f n)
            (set_apart store (base + k) (base + n) (f k) (λ e. apart (left base n k e))
            ∙ own n (omega (arith, least)) apart)
      ]
    where
      left : (base n k : ℕ) → base + n ≡ base + k → n ≡ k
      left base n k e = omega (arith, e)
