-- The first entry that may be an error, where those before a place are none (`skips`), and numbers
-- that ascend.
use Rattle.std.proofs.Common.{◌≡◌, ℕ, zero, suc, ◌+◌, ◌-◌, ◌<◌, ◌≤◌, Bool, false, cond}
use Rattle.std.proofs.Common.{get_or, List}
use Rattle.std.proofs.Common.{[], ◌∷◌, drop, take, length, refl, sym, ap, ◌∙◌, subst, inl, inr}
use Rattle.std.proofs.Common.{arith}
use Rattle.std.proofs.Common.{⊎_elim}
use Rattle.std.specs.Prelude.{◌⊎◌, ◌==◌, slice_index_or, Some}
use Rattle.std.specs.List.{AllByRecursion, find}
use Rattle.std.specs.Option.{option_map}
use Rattle.cpa_model.specs.declared.automaton.Cfa.{Cfa}
use Rattle.cpa_iface.specs.declared.entries.Entry.{Entry}
use Rattle.cpa_reached.specs.Entries.{numbers}
use Rattle.cpa_model.specs.Ascending.{AreAscending}
use Rattle.cpa_reached.specs.Members.{IsIn}
use Rattle.cpa_iface.specs.declared.precisions.Precision.{Precision}
use Rattle.cpa_engine_rounds.specs.Errors.{may_err, first_error}
use Rattle.cpa_engine_rounds.specs.Precisions.{HaveAll}
use Rattle.cpa_engine_rounds.proofs.MarkLemmas.{take_end}

all_at : (P : ℕ → Type 0) (xs : List Entry) (j : ℕ) (d : Entry) → AllByRecursion P (numbers xs)
    → j < length xs → P (slice_index_or xs j d).number
all_at P [] j d all less = absurd (omega (arith, less))
all_at P (x ∷ xs) zero d all less = all.0
all_at P (x ∷ xs) (suc j) d all less = all_at P xs j d all.1 (omega (arith, less))

pub rises : (xs : List Entry) → AreAscending (numbers xs) → (i j : ℕ) (d : Entry) → i ≤ j
    → j < length xs → (slice_index_or xs i d).number ≤ (slice_index_or xs j d).number
rises [] up i j d le less = absurd (omega (arith, less))
rises (x ∷ xs) up zero zero d le less = omega arith
rises (x ∷ xs) up zero (suc j) d le less =
    let above = all_at (λ m. x.number < m) xs j d up.0 (omega (arith, less)) in omega (arith, above)
rises (x ∷ xs) up (suc i) zero d le less = absurd (omega (arith, le))
rises (x ∷ xs) up (suc i) (suc j) d le less =
    rises xs up.1 i j d (omega (arith, le)) (omega (arith, less))

pub item_in : (xs : List Entry) (i : ℕ) (d : Entry) → i < length xs
    → IsIn (slice_index_or xs i d) xs
item_in [] i d less = absurd (omega (arith, less))
item_in (x ∷ xs) zero d less = inl refl
item_in (x ∷ xs) (suc i) d less = inr (item_in xs i d (omega (arith, less)))

-- one that is no error is passed
passes : (cfa : Cfa) (x : Entry) (xs : List Entry) → may_err cfa x.elems ≡ false
    → first_error cfa (x ∷ xs) ≡ first_error cfa xs
passes cfa x xs safe =
    ap (λ (b : Bool). option_map (λ (e : Entry). e.number)
    (cond b (Some x) (find (λ (e : Entry). may_err cfa e.elems) xs))) safe

pub skips : (cfa : Cfa) (xs : List Entry) (k : ℕ) → k ≤ length xs
    → ((i : ℕ) (d : Entry) → i < k → may_err cfa (slice_index_or xs i d).elems ≡ false)
    → first_error cfa xs ≡ first_error cfa (drop k xs)
skips cfa xs zero le none = refl
skips cfa [] (suc k) le none = refl
skips cfa (x ∷ xs) (suc k) le none =
    passes cfa x xs (none 0 x (omega arith))
    ∙ skips cfa xs k (omega (arith, le)) (λ i d less. none (suc i) d (omega (arith, less)))

pub rest_whole : (xs : List Entry) (k : ℕ) → take (length xs - k) (drop k xs) ≡ drop k xs
rest_whole xs k = take_end (drop k xs) (length xs - k) (size xs k)
  where
    size : (xs : List Entry) (k : ℕ) → length (drop k xs) ≤ length xs - k
    size xs zero = omega arith
    size [] (suc k) = omega arith
    size (x ∷ xs) (suc k) = let rest = size xs k in omega (arith, rest)

-- the last of numbers that ascend is the greatest
pub below_last : (xs : List Entry) → AreAscending (numbers xs) → (i : ℕ) (e : Entry)
    → length xs ≡ i + 1
    → IsIn e xs → (d : Entry) → e.number ≤ (slice_index_or xs i d).number
below_last xs up i e size there d =
    let at = place xs e there in
    let less = at.1 in
    let rise = rises xs up at.0 i d (omega (arith, less, size)) (omega (arith, size)) in
    subst (λ (y : Entry). y.number ≤ (slice_index_or xs i d).number) (at.2 d) rise
  where
    place : (xs : List Entry) (e : Entry) → IsIn e xs
        → (k : ℕ) × (k < length xs) × ((d : Entry) → slice_index_or xs k d ≡ e)
    place [] e there = absurd there
    place (x ∷ xs) e (inl same) = (0, omega arith, λ d. same)
    place (x ∷ xs) e (inr later) =
        let r = place xs e later in let less = r.1 in (suc r.0, omega (arith, less), λ d. r.2 d)

-- the item at a place is one of the list
pub item_of : (xs : List Entry) (i : ℕ) (e : Entry) → i < length xs → e ≡ get_or xs i e
    → IsIn e xs
item_of [] i e less at = absurd (omega (arith, less))
item_of (x ∷ xs) zero e less at = inl (sym at)
item_of (x ∷ xs) (suc i) e less at = inr (item_of xs i e (omega (arith, less)) at)

-- one entry more with these precisions, and then all
pub one_more_has : (ps : List Precision) (xs : List Entry) (i : ℕ) (e : Entry) → i < length xs
    → e ≡ get_or xs i e → HaveAll ps (take i xs) → e.precisions ≡ ps
    → HaveAll ps (take (i + 1) xs)
one_more_has ps xs i e less at so_far has = λ f there.
    ⊎_elim (so_far f) (λ same. ap (λ (y : Entry). y.precisions) (sym same ∙ sym at) ∙ has)
    (last xs i e f less there)
  where
    last : (ys : List Entry) (j : ℕ) (d f : Entry) → j < length ys → IsIn f (take (j + 1) ys)
        → IsIn f (take j ys) ⊎ (get_or ys j d ≡ f)
    last [] j d f less there = absurd (omega (arith, less))
    last (y ∷ ys) zero d f less (inl same) = inr same
    last (y ∷ ys) zero d f less (inr later) = absurd later
    last (y ∷ ys) (suc j) d f less there =
        ⊎_elim (λ same. inl (inl same))
        (λ later. ⊎_elim (λ old. inl (inr old)) (λ same. inr same)
        (last ys j d f (omega (arith, less)) later))
        (subst (λ (n : ℕ). IsIn f (take n (y ∷ ys))) (moved j) there)
      where
        moved : (j : ℕ) → suc j + 1 ≡ suc (j + 1)
        moved j = omega arith

pub all_have : (ps : List Precision) (xs : List Entry) (i : ℕ) → length xs ≤ i
    → HaveAll ps (take i xs) → HaveAll ps xs
all_have ps xs i over have =
    subst (λ (ys : List Entry). HaveAll ps ys) (take_end xs i over) have

pub last_place : (xs : List Entry) → (length xs == 0) ≡ false → length xs ≡ (length xs - 1) + 1
last_place [] wrong = absurd (cc)
last_place (x ∷ xs) is = omega arith
