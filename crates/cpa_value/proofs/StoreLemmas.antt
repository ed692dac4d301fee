-- Known values beside a store that has them, after writes to both.
use Rattle.std.proofs.Common.{◌≡◌, ◌≢◌, ℕ, ◌+◌, ◌<◌, ℤ, Bool, true, false, List, [], ◌∷◌, refl, sym}
use Rattle.std.proofs.Common.{ap, ◌∙◌, subst, arith, length, map, inl, inr}
use Rattle.std.specs.Prelude.{zero, suc, ◌==◌, ◌⊎◌, Option, None, Some, Ok, Err, slice_get}
use Rattle.std.specs.Prelude.{slice_set, IsSomeAnd}
use Rattle.std.specs.List.{slice_index_or}
use Rattle.std.proofs.lemmas.Bool.Decides.{Decides-eqb}
use Rattle.cpa_ints.specs.declared.integers.IntType.{IntType}
use Rattle.cpa_expr.specs.Cells.{AreValues}
use Rattle.cpa_model.specs.Standing.{same_bool}
use Rattle.cpa_value_changes.specs.declared.known.Gap.TheVariants.{Unknown, Trap}
use Rattle.cpa_value_changes.specs.KnownValues.{Known}
use Rattle.cpa_value_changes.specs.Acts.{forgotten}
use Rattle.cpa_value.proofs.KnownLemmas.{Agrees, AgreeCells}

-- what is known of a cell after one is set
index_set : (xs : List (Option ℤ)) (k c : ℕ) (o : Option ℤ) (v : ℤ)
    → slice_index_or (slice_set xs k o) c None ≡ Some v
    → ((c ≡ k) × (o ≡ Some v)) ⊎ ((c ≢ k) × (slice_index_or xs c None ≡ Some v))
index_set [] k c o v is = absurd (cc)
index_set (x ∷ xs) zero zero o v is = inl (refl, is)
index_set (x ∷ xs) zero (suc c) o v is = inr ((λ e. cc), is)
index_set (x ∷ xs) (suc k) zero o v is = inr ((λ e. cc), is)
index_set (x ∷ xs) (suc k) (suc c) o v is =
    elim (index_set xs k c o v is) [
      | inl h ↦ inl (ap suc h.0, h.1)
      | inr h ↦ inr ((λ e. h.0 (cc)), h.1)
    ]

get_set_same : (xs : List ℤ) (k : ℕ) (w : ℤ) → k < length xs
    → slice_get (slice_set xs k w) k ≡ Some w
get_set_same [] k w inside = absurd (omega arith)
get_set_same (x ∷ xs) zero w inside = refl
get_set_same (x ∷ xs) (suc k) w inside = get_set_same xs k w (omega arith)

get_set_other : (xs : List ℤ) (k c : ℕ) (w : ℤ) → c ≢ k
    → slice_get (slice_set xs k w) c ≡ slice_get xs c
get_set_other [] k c w differs = refl
get_set_other (x ∷ xs) zero zero w differs = absurd (differs refl)
get_set_other (x ∷ xs) zero (suc c) w differs = refl
get_set_other (x ∷ xs) (suc k) zero w differs = refl
get_set_other (x ∷ xs) (suc k) (suc c) w differs = get_set_other xs k c w (λ e. differs (ap suc e))

-- a write of a value that is known, or of any where none is kept
pub agree_put : (cells : List (Option ℤ)) (old : List ℤ) (k : ℕ) (o : Option ℤ) (w : ℤ)
    → AgreeCells cells old
    → ((v : ℤ) → o ≡ Some v → (w ≡ v) × (k < length old))
    → AgreeCells (slice_set cells k o) (slice_set old k w)
agree_put cells old k o w agree known cell v is =
    elim (index_set cells k cell o v is) [
      | inl h ↦
          let it = known v h.1 in
          subst (λ c. slice_get (slice_set old k w) c ≡ Some v) (sym h.0)
          (get_set_same old k w it.1 ∙ ap Some it.0)
      | inr h ↦ get_set_other old k cell w h.0 ∙ agree cell v h.1
    ]

-- a value that the store has
pub agree_set : (cells : List (Option ℤ)) (values : List ℤ) (k : ℕ) (v : ℤ)
    → AgreeCells cells values → slice_get values k ≡ Some v
    → AgreeCells (slice_set cells k (Some v)) values
agree_set cells values k v agree at cell w is =
    elim (index_set cells k cell (Some v) w is) [
      | inl h ↦ subst (λ c. slice_get values c ≡ Some w) (sym h.0) (at ∙ h.1)
      | inr h ↦ agree cell w h.1
    ]

forgotten_means : (base len : ℕ) (cells : List (Option ℤ)) (c : ℕ) (v : ℤ)
    → slice_index_or (forgotten base len cells) c None ≡ Some v
    → (slice_index_or cells c None ≡ Some v) × ((i : ℕ) → i < len → c ≢ base + i)
forgotten_means base zero cells c v is = (is, λ i less. absurd (omega arith))
forgotten_means base (suc len) cells c v is =
    split (index_set (forgotten base len cells) (base + len) c None v is)
    (forgotten_means base len cells c v) where
      split : ((c ≡ base + len) × (None ≡ Some v))
          ⊎ ((c ≢ base + len) × (slice_index_or (forgotten base len cells) c None ≡ Some v))
          → (slice_index_or (forgotten base len cells) c None ≡ Some v
          → (slice_index_or cells c None ≡ Some v) × ((i : ℕ) → i < len → c ≢ base + i))
          → (slice_index_or cells c None ≡ Some v) × ((i : ℕ) → i < suc len → c ≢ base + i)
      split (inl h) rest = absurd (cc h.1)
      split (inr h) rest =
          let before = rest h.1 in
          (before.0, λ i less same. last i less same (i == len) refl before.1 h.0) where
            last : (i : ℕ) → i < suc len → c ≡ base + i → (b : Bool) → (i == len) ≡ b
                → ((j : ℕ) → j < len → c ≢ base + j) → (c ≢ base + len) → ⊥
            last i less same true is before other = let here : i ≡ len = (Decides-eqb i len).0 is in
                other (same ∙ ap (λ j. base + j) here)
            last i less same false is before other =
                let differs : i ≢ len = λ e. absurd (cc ((Decides-eqb i len).1 e, is)) in
                before i (omega (arith, differs)) same

-- a write somewhere in an array of which nothing is kept
pub agree_forgotten : (cells : List (Option ℤ)) (old : List ℤ) (base len place : ℕ) (w : ℤ)
    → AgreeCells cells old → place < len
    → AgreeCells (forgotten base len cells) (slice_set old (base + place) w)
agree_forgotten cells old base len place w agree inside cell v is =
    let means = forgotten_means base len cells cell v is in
    get_set_other old (base + place) cell w (means.1 place inside) ∙ agree cell v means.0

-- what is known of a value that is there
pub agrees_some : (k : Known) (o : Option ℤ) (v : ℤ) → Agrees k o → o ≡ Some v
    → (k ≡ Ok v) ⊎ (k ≡ Err Unknown)
agrees_some (Ok w) o v agrees is = let same : w ≡ v = cc in inl (ap Ok same)
agrees_some (Err Trap) o v agrees is = absurd (cc)
agrees_some (Err Unknown) o v agrees is = inr refl

pub some_and : {X : Type 0} (P : X → Type 0) (o : Option X) → IsSomeAnd o P
    → (x : X) × (o ≡ Some x) × P x
some_and P None h = absurd h
some_and P (Some x) h = (x, refl, h)

pub same_bool-means : (a b : Bool) → same_bool a b ≡ true → a ≡ b
same_bool-means true b h = sym h
same_bool-means false true h = absurd (cc)
same_bool-means false false h = refl

pub same_bool-from : (a b : Bool) → a ≡ b → same_bool a b ≡ true
same_bool-from a true e = ap (λ x. same_bool x true) e
same_bool-from a false e = ap (λ x. same_bool x false) e

-- a list of values is as long as that of their types
pub zip_length : (types : List IntType) (values : List ℤ) → AreValues types values
    → length types ≡ length values
zip_length [] [] all = refl
zip_length [] (v ∷ values) all = absurd all
zip_length (t ∷ types) [] all = absurd all
zip_length (t ∷ types) (v ∷ values) all = ap suc (zip_length types values all.1)

-- all values of a store are known
pub all_known : (values : List ℤ) → AgreeCells (map Some values) values
all_known [] cell v is = absurd (cc)
all_known (x ∷ values) zero v is = is
all_known (x ∷ values) (suc cell) v is = all_known values cell v is
