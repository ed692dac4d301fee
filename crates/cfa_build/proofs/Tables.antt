-- Writes to a table of places, and the places of the parts of a statement.
use Rattle.std.proofs.Common.{◌≡◌, ◌≢◌, ℕ, zero, suc, ◌+◌, ◌-◌, ◌<◌, ◌≤◌, ◌==◌, if◌then◌else◌, List}
use Rattle.std.proofs.Common.{[], ◌∷◌, length, set, drop, get_or, Option, Some, None, refl, sym, ap}
use Rattle.std.proofs.Common.{◌∙◌, inl, inr, arith, eq-eqb, ne_eqb, lit<}
use Rattle.std.specs.List.{All, slice_get}
use Rattle.std.proofs.lemmas.Bool.{cases_eq}
use Rattle.std.proofs.lemmas.List.{drop_more, length-set}
use Rattle.std.proofs.lemmas.Option.{same_Some}
use Rattle.cpa_expr.specs.declared.tree.Expr.{Expr}
use Rattle.cpa_model.specs.declared.program.Stmt.TheVariants as stmt
use Rattle.cpa_model.specs.declared.program.Successor.{Successor}
use Rattle.cpa_model.specs.declared.program.Successor.TheVariants.{GoesTo, AfterWhole}
use Rattle.cpa_model.specs.Programs.{first_of, after_item, after_part}
use Rattle.cfa_build.specs.declared.places.Place.{Place}
use Rattle.cfa_build.specs.Places.{PartsPlaced, place_at, within}

pub slice_get-set_same : {X : Type 0} (xs : List X) (i : ℕ) (w : X) → i < length xs
    → slice_get (set xs i w) i ≡ Some w
slice_get-set_same [] i w h = absurd (omega arith)
slice_get-set_same (x ∷ xs) zero w h = refl
slice_get-set_same (x ∷ xs) (suc i) w h = slice_get-set_same xs i w (omega arith)

pub slice_get-set_other : {X : Type 0} (xs : List X) (i j : ℕ) (w : X) → j ≢ i
    → slice_get (set xs i w) j ≡ slice_get xs j
slice_get-set_other [] i j w h = refl
slice_get-set_other (x ∷ xs) zero zero w h = absurd (h refl)
slice_get-set_other (x ∷ xs) zero (suc j) w h = refl
slice_get-set_other (x ∷ xs) (suc i) zero w h = refl
slice_get-set_other (x ∷ xs) (suc i) (suc j) w h = slice_get-set_other xs i j w (λ e. h (ap suc e))

pub no_part : (place : Place) (xs : List Place) → PartsPlaced (λ c. None) place xs xs
no_part place xs = record { parts = λ c s h. cc; others = λ c h. refl }

pub one_more_part : (f : ℕ
    → Option Successor) (place : Place) (old now : List Place) (c : ℕ) (s : Successor)
    → c < length now → PartsPlaced f place old now
    → PartsPlaced (λ k. if c == k then Some s else f k) place old (set now c (place_at place s))
one_more_part f place old now c s inside r = record {
  parts = λ k t h. elim (cases_eq c k) [
    | inl e ↦
        let st : s ≡ t = same_Some _ _ (rw (eq-eqb c k e) at h) in
        ap (slice_get (set now c (place_at place s))) (sym e)
        ∙ slice_get-set_same now c (place_at place s) inside ∙ ap (λ u. Some (place_at place u)) st
    | inr ne ↦ slice_get-set_other now c k (place_at place s) (λ e. ne (sym e))
        ∙ r.parts k t (rw (ne_eqb c k ne) at h)
  ];
  others = λ k h. elim (cases_eq c k) [
    | inl e ↦ let impossible : Some s ≡ None = rw (eq-eqb c k e) at h in absurd cc
    | inr ne ↦ slice_get-set_other now c k (place_at place s) (λ e. ne (sym e))
        ∙ r.others k (rw (ne_eqb c k ne) at h)
  ];
}

pub one_more_item : (a : ℕ) (items : List ℕ) (place : Place) (old now : List Place) → a < length now
    → PartsPlaced (after_item items) place old now
    → PartsPlaced (after_item (a ∷ items)) place old (set now a (place_at place (first_of items)))
one_more_item a items place old now inside r =
    one_more_part (after_item items) place old now a (first_of items) inside r

-- the items from i on are placed, and the place before them is known
abbrev pub PlacedFrom : List ℕ → Place → List Place → ℕ → Place → List Place → Type 0
PlacedFrom items whole old i place now =
    PartsPlaced (after_item (drop i items)) whole old now
    × (place ≡ place_at whole (first_of (drop i items)))

pub placed_before : (items : List ℕ) (i : ℕ) (whole place : Place) (old now : List Place) → 0 < i
    → i ≤ length items → get_or items (i - 1) 0 < length now
    → PlacedFrom items whole old i place now
    → PlacedFrom items whole old (i - 1) (record place { next = get_or items (i - 1) 0 })
    (set now (get_or items (i - 1) 0) place)
placed_before items i whole place old now positive inside within h =
    let item : ℕ = get_or items (i - 1) 0 in
    let next : (i - 1) + 1 ≡ i = omega arith in
    let cut : drop (i - 1) items ≡ item ∷ drop i items =
    drop_more items (i - 1) 0 (omega arith) ∙ ap (λ k. item ∷ drop k items) next in
    let more = one_more_item item (drop i items) whole old now within h.0 in
    rw cut (rw h.1 more, rw h.1 refl)

pub if_placed : (n : ℕ) (test : Expr) (first second : ℕ) (whole : Place) (old : List Place)
    → All (λ c. c < length old) (first ∷ second ∷ [])
    → PartsPlaced (after_part n (stmt.If test first second)) whole old
    (set (set old second whole) first whole)
if_placed n test first second whole old inside =
    let f : first < length old = inside 0 0 (lit< tt) in
    let s : second < length old = inside 1 0 (lit< tt) in
    one_more_part _ whole old (set old second whole) first AfterWhole
    (omega (arith, length-set old second whole))
    (one_more_part _ whole old old second AfterWhole s (no_part whole old))

pub loop_placed : (n body step : ℕ) (whole : Place) (old : List Place)
    → All (λ c. c < length old) (body ∷ step ∷ [])
    → PartsPlaced (after_part n (stmt.Loop body step)) (within n (stmt.Loop body step) whole)
    old (set (set old step (record {
      next = n;
      inner_loop = Some n;
      function = whole.function;
    })) body
    (record { next = step; inner_loop = Some n; function = whole.function }))
loop_placed n body step whole old inside =
    let b : body < length old = inside 0 0 (lit< tt) in
    let s : step < length old = inside 1 0 (lit< tt) in
    let place : Place = within n (stmt.Loop body step) whole in
    one_more_part _ place old (set old step (place_at place (GoesTo n))) body (GoesTo step)
    (omega (arith, length-set old step (place_at place (GoesTo n))))
    (one_more_part _ place old old step (GoesTo n) s (no_part place old))
