-- Lists that are read off a table cell by cell, and a table that is filled with starts.
use Rattle.std.proofs.Common.{◌≡◌, ℕ, ◌+◌, ◌<◌, ◌≤◌, ℤ, List, [], ◌∷◌, ◌++◌, refl, sym, ap}
use Rattle.std.proofs.Common.{◌∙◌, subst, arith, length, drop, append-nil, inl, inr, map}
use Rattle.std.specs.Prelude.{zero, suc, None, Some, slice_get, slice_set}
use Rattle.std.proofs.lemmas.Bool.{cases_order}
use Rattle.std.proofs.lemmas.List.{append_assoc, drop_more}
use Rattle.std.proofs.lemmas.Option.{slice_get_within, get_or_from_slice_get}
use Rattle.cpa_model.specs.declared.program.Cell.{Cell}
use Rattle.cpa_interval_bounds.specs.declared.bounds.Bounds.{Bounds}
use Rattle.cpa_interval_bounds.specs.Bounds.{only}
use Rattle.cpa_interval_bounds.specs.Tables.{ranges_of}
use Rattle.cpa_interval_bounds.specs.lemmas.TableLemmas.{set_length, ranges_length}
use Rattle.cpa_interval_acts.specs.lemmas.ActLemmas.{set_other}
use Rattle.cpa_recheck_bounds.specs.Exact.{lows_of}

-- ---- what is read off

drop_at : (xs : List ℤ) (i : ℕ) (x : ℤ) → slice_get xs i ≡ Some x
    → drop i xs ≡ x ∷ drop (i + 1) xs
drop_at xs i x at =
    drop_more xs i x (slice_get_within xs i x at)
    ∙ ap (λ y. y ∷ drop (i + 1) xs) (get_or_from_slice_get xs i x x at)

drop_past : (xs : List ℤ) (i : ℕ) → length xs ≤ i → drop i xs ≡ []
drop_past [] zero past = refl
drop_past [] (suc i) past = refl
drop_past (x ∷ xs) zero past = absurd (omega (arith, past))
drop_past (x ∷ xs) (suc i) past = drop_past xs i (omega (arith, past))

pub more_of : (xs values new : List ℤ) (i : ℕ) (x : ℤ) → slice_get xs i ≡ Some x
    → values ++ drop i xs ≡ xs → new ≡ values ++ x ∷ [] → new ++ drop (i + 1) xs ≡ xs
more_of xs values new i x at was is =
    ap (λ l. l ++ drop (i + 1) xs) is
    ∙ (append_assoc values (x ∷ []) (drop (i + 1) xs)
    ∙ (ap (λ l. values ++ l) (sym (drop_at xs i x at)) ∙ was))

pub all_of : (xs values : List ℤ) (i : ℕ) → length xs ≤ i → values ++ drop i xs ≡ xs → values ≡ xs
all_of xs values i past was =
    sym (append-nil values) ∙ (ap (λ l. values ++ l) (sym (drop_past xs i past)) ∙ was)

pub lows_long : (all : List Bounds) → length (lows_of all) ≡ length all
lows_long [] = refl
lows_long (b ∷ all) = ap suc (lows_long all)

pub low_is : (all : List Bounds) (i : ℕ) (own : Bounds) → slice_get all i ≡ Some own
    → slice_get (lows_of all) i ≡ Some own.lo
low_is [] i own at = absurd (cc)
low_is (b ∷ all) zero own at = let same : b ≡ own = cc in ap (λ (x : Bounds). Some x.lo) same
low_is (b ∷ all) (suc i) own at = low_is all i own at

pub is_there : (all : List Bounds) (i : ℕ) → i < length all → slice_get all i ≡ None → ⊥
is_there [] i less at = absurd (omega (arith, less))
is_there (b ∷ all) zero less at = absurd (cc)
is_there (b ∷ all) (suc i) less at = is_there all i (omega (arith, less)) at

-- ---- what is filled

-- the cells from this one on have their bounds
pub record IsFilledFrom (place : ℕ) (whole all : List Bounds) : Type 0 where
  pub within : place ≤ length whole
  pub long : length all ≡ length whole
  pub right : (cell : ℕ) → place ≤ cell → slice_get all cell ≡ slice_get whole cell

past : (xs : List Bounds) (i : ℕ) → length xs ≤ i → slice_get xs i ≡ None
past [] i over = refl
past (x ∷ xs) zero over = absurd (omega (arith, over))
past (x ∷ xs) (suc i) over = past xs i (omega (arith, over))

get_set : (xs : List Bounds) (i : ℕ) (b : Bounds) → i < length xs
    → slice_get (slice_set xs i b) i ≡ Some b
get_set [] i b less = absurd (omega (arith, less))
get_set (x ∷ xs) zero b less = refl
get_set (x ∷ xs) (suc i) b less = get_set xs i b (omega (arith, less))

-- at first none has to
pub filled_first : (cells : List Cell) (whole first : List Bounds) → first ≡ ranges_of cells
    → length whole ≡ length cells → IsFilledFrom (length cells) whole first
filled_first cells whole first is long = record {
  within = omega (arith, long);
  long = own;
  right = λ cell over.
      past first cell (omega (arith, own, long, over))
      ∙ sym (past whole cell (omega (arith, long, over)));
} where
  own : length first ≡ length whole
  own = ap length is ∙ (ranges_length cells ∙ sym long)

-- one more has
pub filled_more : (place before : ℕ) (whole all new : List Bounds) (b : Bounds)
    → place ≡ before + 1 → slice_get whole before ≡ Some b → new ≡ slice_set all before b
    → IsFilledFrom place whole all → IsFilledFrom before whole new
filled_more place before whole all new b next at is was = record {
  within = let within = was.within in omega (arith, within, next);
  long = ap length is ∙ (set_length all before b ∙ was.long);
  right = λ cell over. ap (λ l. slice_get l cell) is ∙ elim (cases_order cell before) [
    | inl same ↦
        let long = was.long in
        let within = was.within in
        let inside : before < length all = omega (arith, within, next, long) in
        subst (λ c. slice_get (slice_set all before b) c ≡ slice_get whole c) (sym same)
        (get_set all before b inside ∙ sym at)
    | inr apart ↦ elim apart [
      | inl less ↦ absurd (omega (arith, over, less))
      | inr more ↦
          set_other all before cell b
          (λ same. let eq : cell ≡ before = same in omega (arith, more, eq))
          ∙ was.right cell (omega (arith, next, more))
    ]
  ];
}

-- and then all have
pub filled_all : (place : ℕ) (whole all : List Bounds) → place ≡ 0 → IsFilledFrom place whole all
    → all ≡ whole
filled_all place whole all none was =
    same whole all was.long (λ cell. was.right cell (omega (arith, none))) where
      same : (xs ys : List Bounds) → length ys ≡ length xs
          → ((cell : ℕ) → slice_get ys cell ≡ slice_get xs cell) → ys ≡ xs
      same [] [] long each = refl
      same [] (y ∷ ys) long each = absurd (cc)
      same (x ∷ xs) [] long each = absurd (cc)
      same (x ∷ xs) (y ∷ ys) long each =
          let first : y ≡ x = let here = each 0 in cc in
          ap (λ z. z ∷ ys) first
          ∙ ap (λ l. x ∷ l) (same xs ys (omega (arith, long)) (λ cell. each (suc cell)))

pub starts_long : (cells : List Cell)
    → length (map (λ (cell : Cell). only cell.start) cells) ≡ length cells
starts_long [] = refl
starts_long (c ∷ cells) = ap suc (starts_long cells)

pub start_is : (cells : List Cell) (i : ℕ) (c : Cell) → slice_get cells i ≡ Some c
    → slice_get (map (λ (cell : Cell). only cell.start) cells) i ≡ Some (only c.start)
start_is [] i c at = absurd (cc)
start_is (x ∷ cells) zero c at =
    let same : x ≡ c = cc in ap (λ (y : Cell). Some (only y.start)) same
start_is (x ∷ cells) (suc i) c at = start_is cells i c at
