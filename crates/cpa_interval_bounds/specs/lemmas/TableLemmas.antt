-- That halving finds the bounds of a cell, and what is left where they change.
use Rattle.std.proofs.Common.{◌≡◌, ℕ, ◌<◌, ◌≤◌, Bool, true, false, List, [], ◌∷◌, refl, sym, ap}
use Rattle.std.proofs.Common.{◌∙◌}
use Rattle.std.proofs.Common.{subst, arith, cond, length, inl, inr, ◌≢◌}
use Rattle.std.specs.Prelude.{zero, suc, None, Some, option_map, slice_get, slice_set}
use Rattle.std.specs.Prelude.{nat_lt}
use Rattle.std.specs.List.{insert}
use Rattle.std.proofs.lemmas.Bool.{and_parts, and_from, ltb-true, ltb-false, lt-ltb, le-ltb}
use Rattle.std.proofs.lemmas.Bool.{eq-eqb, ne_eqb, cases_order, false≢true}
use Rattle.std.proofs.lemmas.Bool.Decides.{Decides-eqb}
use Rattle.std.proofs.lemmas.List.{set-set}
use Rattle.cpa_model.specs.declared.program.Cell.{Cell}
use Rattle.cpa_interval_bounds.specs.declared.bounds.Bounds.{Bounds}
use Rattle.cpa_interval_bounds.specs.declared.table.CellBounds.{CellBounds}
use Rattle.cpa_interval_bounds.specs.Bounds.{range_of}
use Rattle.cpa_interval_bounds.specs.Tables.{ranges_of, known_bounds, are_descending, is_above}
use Rattle.cpa_interval_bounds.specs.Tables.{is_of, place_in, own_at, own_in, or_range}

-- ---- lists of bounds

pub set_length : (bs : List Bounds) (k : ℕ) (b : Bounds) → length (slice_set bs k b) ≡ length bs
set_length [] k b = refl
set_length (x ∷ bs) zero b = refl
set_length (x ∷ bs) (suc k) b = ap suc (set_length bs k b)

get_set : (bs : List Bounds) (k : ℕ) (b : Bounds) → k < length bs
    → slice_get (slice_set bs k b) k ≡ Some b
get_set [] k b less = absurd (omega (arith, less))
get_set (x ∷ bs) zero b less = refl
get_set (x ∷ bs) (suc k) b less = get_set bs k b (omega (arith, less))

get_other : (bs : List Bounds) (k j : ℕ) (b : Bounds) → k ≢ j
    → slice_get (slice_set bs k b) j ≡ slice_get bs j
get_other [] k j b other = refl
get_other (x ∷ bs) zero zero b other = absurd (other refl)
get_other (x ∷ bs) zero (suc j) b other = refl
get_other (x ∷ bs) (suc k) zero b other = refl
get_other (x ∷ bs) (suc k) (suc j) b other =
    get_other bs k j b (λ same. other (ap suc same))

set_both : (bs : List Bounds) (k j : ℕ) (a b : Bounds) → k ≢ j
    → slice_set (slice_set bs k a) j b ≡ slice_set (slice_set bs j b) k a
set_both [] k j a b other = refl
set_both (x ∷ bs) zero zero a b other = absurd (other refl)
set_both (x ∷ bs) zero (suc j) a b other = refl
set_both (x ∷ bs) (suc k) zero a b other = refl
set_both (x ∷ bs) (suc k) (suc j) a b other =
    ap (λ l. x ∷ l) (set_both bs k j a b (λ same. other (ap suc same)))

-- a cell that has its bounds already
pub set_has : (bs : List Bounds) (k : ℕ) (b : Bounds) → slice_get bs k ≡ Some b
    → slice_set bs k b ≡ bs
set_has [] k b at = refl
set_has (x ∷ bs) zero b at = let same : x ≡ b = cc in ap (λ y. y ∷ bs) (sym same)
set_has (x ∷ bs) (suc k) b at = ap (λ l. x ∷ l) (set_has bs k b at)

-- a cell that is not there
pub set_past : (bs : List Bounds) (k : ℕ) (b : Bounds) → length bs ≤ k → slice_set bs k b ≡ bs
set_past [] k b past = refl
set_past (x ∷ bs) zero b past = absurd (omega (arith, past))
set_past (x ∷ bs) (suc k) b past = ap (λ l. x ∷ l) (set_past bs k b (omega (arith, past)))

pub ranges_length : (cells : List Cell) → length (ranges_of cells) ≡ length cells
ranges_length [] = refl
ranges_length (c ∷ cells) = ap suc (ranges_length cells)

-- each cell has bounds
pub known_length : (cells : List Cell) (ks : List CellBounds)
    → length (known_bounds cells ks) ≡ length cells
known_length cells [] = ranges_length cells
known_length cells (k ∷ ks) =
    set_length (known_bounds cells ks) k.cell k.own ∙ known_length cells ks

range_at : (cells : List Cell) (cell : ℕ)
    → option_map (λ (c : Cell). range_of c.ty) (slice_get cells cell)
    ≡ slice_get (ranges_of cells) cell
range_at [] cell = refl
range_at (c ∷ cells) zero = refl
range_at (c ∷ cells) (suc cell) = range_at cells cell

-- ---- the order

-- what the order says of the first cell
pub record Heads (n : ℕ) (k : CellBounds) (ks : List CellBounds) : Type 0 where
  pub below : k.cell < n
  pub rest : are_descending k.cell ks ≡ true

pub heads : (n : ℕ) (k : CellBounds) (ks : List CellBounds) → are_descending n (k ∷ ks) ≡ true
    → Heads n k ks
heads n k ks is =
    let parts = and_parts (nat_lt k.cell n) (are_descending k.cell ks) is in
    record { below = ltb-true k.cell n parts.0; rest = parts.1 }

pub headed : (n : ℕ) (k : CellBounds) (ks : List CellBounds) → k.cell < n
    → are_descending k.cell ks ≡ true → are_descending n (k ∷ ks) ≡ true
headed n k ks below rest =
    and_from (nat_lt k.cell n) (are_descending k.cell ks) (lt-ltb k.cell n below) rest

-- ---- the place of a cell

-- a cell that comes in front is above
further : (cell : ℕ) (k : CellBounds) (ks : List CellBounds) → cell < k.cell
    → place_in cell (k ∷ ks) ≡ suc (place_in cell ks)
further cell k ks less =
    ap (λ t. cond t (suc (place_in cell ks)) 0) (lt-ltb cell k.cell less)

-- one that is not above has the place
here : (cell : ℕ) (k : CellBounds) (ks : List CellBounds) → k.cell ≤ cell
    → place_in cell (k ∷ ks) ≡ 0
here cell k ks not_above =
    ap (λ t. cond t (suc (place_in cell ks)) 0) (le-ltb cell k.cell not_above)

above_lies : (n cell m : ℕ) (ks : List CellBounds) → are_descending n ks ≡ true
    → is_above cell (slice_get ks m) ≡ true → cell < n
above_lies n cell m [] is above = absurd (false≢true above)
above_lies n cell zero (k ∷ ks) is above =
    let h = heads n k ks is in
    let below = h.below in
    let less = ltb-true cell k.cell above in
    omega (arith, below, less)
above_lies n cell (suc m) (k ∷ ks) is above =
    let h = heads n k ks is in
    let below = h.below in
    let less = above_lies k.cell cell m ks h.rest above in
    omega (arith, below, less)

-- the place lies behind each cell above
pub behind_above : (n cell m : ℕ) (ks : List CellBounds) → are_descending n ks ≡ true
    → is_above cell (slice_get ks m) ≡ true → m < place_in cell ks
behind_above n cell m [] is above = absurd (false≢true above)
behind_above n cell zero (k ∷ ks) is above =
    let next = further cell k ks (ltb-true cell k.cell above) in omega (arith, next)
behind_above n cell (suc m) (k ∷ ks) is above =
    let h = heads n k ks is in
    let next = further cell k ks (above_lies k.cell cell m ks h.rest above) in
    let rest = behind_above k.cell cell m ks h.rest above in
    omega (arith, next, rest)

-- and not behind one that is not
pub not_behind : (cell m : ℕ) (ks : List CellBounds) → m < length ks
    → is_above cell (slice_get ks m) ≡ false → place_in cell ks ≤ m
not_behind cell m [] less not_above = absurd (omega (arith, less))
not_behind cell zero (k ∷ ks) less not_above =
    let first = here cell k ks (ltb-false cell k.cell not_above) in omega (arith, first)
not_behind cell (suc m) (k ∷ ks) less not_above =
    by (nat_lt cell k.cell) (not_behind cell m ks (omega (arith, less)) not_above) where
      by : (b : Bool) → place_in cell ks ≤ m → cond b (suc (place_in cell ks)) 0 ≤ suc m
      by true rest = omega (arith, rest)
      by false rest = omega arith

pub place_within : (cell : ℕ) (ks : List CellBounds) → place_in cell ks ≤ length ks
place_within cell [] = omega arith
place_within cell (k ∷ ks) = by (nat_lt cell k.cell) (place_within cell ks) where
  by : (b : Bool) → place_in cell ks ≤ length ks
      → cond b (suc (place_in cell ks)) 0 ≤ suc (length ks)
  by true rest = omega (arith, rest)
  by false rest = omega arith

-- ---- what is found there

-- of cells that are not below n nothing is known
none_above : (n cell : ℕ) (cells : List Cell) (ks : List CellBounds) → are_descending n ks ≡ true
    → n ≤ cell → slice_get (known_bounds cells ks) cell ≡ slice_get (ranges_of cells) cell
none_above n cell cells [] is past = refl
none_above n cell cells (k ∷ ks) is past =
    let h = heads n k ks is in
    let below = h.below in
    get_other (known_bounds cells ks) k.cell cell k.own
    (λ same. let eq : k.cell ≡ cell = same in omega (arith, below, past, eq))
    ∙ none_above k.cell cell cells ks h.rest (omega (arith, below, past))

-- what is known of the cell, and else all numbers of its type
pub looked_up : (n cell : ℕ) (cells : List Cell) (ks : List CellBounds)
    → are_descending n ks ≡ true → n ≤ length cells
    → or_range (own_in cell ks) (slice_get cells cell) ≡ slice_get (known_bounds cells ks) cell
looked_up n cell cells [] is within = range_at cells cell
looked_up n cell cells (k ∷ ks) is within = elim (cases_order cell k.cell) [
  | inl same ↦
      let at : k.cell ≡ cell = sym same in
      let first = here cell k ks (omega (arith, at)) in
      let inside : k.cell < length (known_bounds cells ks) = omega (arith, below, within, long) in
      ap (λ p. or_range (own_at cell (slice_get (k ∷ ks) p)) (slice_get cells cell)) first
      ∙ (ap (λ t. or_range (cond t (Some k.own) None) (slice_get cells cell))
      (eq-eqb k.cell cell at)
      ∙ subst (λ c. Some k.own ≡ slice_get (slice_set (known_bounds cells ks) k.cell k.own) c) at
      (sym (get_set (known_bounds cells ks) k.cell k.own inside)))
  | inr apart ↦ elim apart [
    | inl less ↦
        ap (λ p. or_range (own_at cell (slice_get (k ∷ ks) p)) (slice_get cells cell))
        (further cell k ks less)
        ∙ (looked_up k.cell cell cells ks h.rest (omega (arith, below, within))
        ∙ sym (get_other (known_bounds cells ks) k.cell cell k.own
        (λ same. let eq : k.cell ≡ cell = same in omega (arith, less, eq))))
    | inr more ↦
        let other : k.cell ≢ cell =
        λ same. let eq : k.cell ≡ cell = same in omega (arith, more, eq) in
        ap (λ p. or_range (own_at cell (slice_get (k ∷ ks) p)) (slice_get cells cell))
        (here cell k ks (omega (arith, more)))
        ∙ (ap (λ t. or_range (cond t (Some k.own) None) (slice_get cells cell))
        (ne_eqb k.cell cell other)
        ∙ (range_at cells cell
        ∙ sym (get_other (known_bounds cells ks) k.cell cell k.own other
        ∙ none_above k.cell cell cells ks h.rest (omega (arith, more)))))
  ]
] where
  h : Heads n k ks
  h = heads n k ks is

  below : k.cell < n
  below = h.below

  long : length (known_bounds cells ks) ≡ length cells
  long = known_length cells ks

-- ---- what is put there

abbrev pub cell_bounds : ℕ → Bounds → CellBounds
cell_bounds cell own = record { cell = cell; own = own }

-- bounds of a cell of which none were known
pub inserted : (cell : ℕ) (own : Bounds) (cells : List Cell) (ks : List CellBounds)
    → known_bounds cells (insert ks (place_in cell ks) (cell_bounds cell own))
    ≡ slice_set (known_bounds cells ks) cell own
inserted cell own cells [] = refl
inserted cell own cells (k ∷ ks) =
    by (nat_lt cell k.cell) refl (inserted cell own cells ks) where
      by : (b : Bool) → nat_lt cell k.cell ≡ b
          → known_bounds cells (insert ks (place_in cell ks) (cell_bounds cell own))
          ≡ slice_set (known_bounds cells ks) cell own
          → known_bounds cells
          (insert (k ∷ ks) (cond b (suc (place_in cell ks)) 0) (cell_bounds cell own))
          ≡ slice_set (slice_set (known_bounds cells ks) k.cell k.own) cell own
      by true above rest =
          let less = ltb-true cell k.cell above in
          ap (λ l. slice_set l k.cell k.own) rest
          ∙ set_both (known_bounds cells ks) cell k.cell own k.own
          (λ same. let eq : cell ≡ k.cell = same in omega (arith, less, eq))
      by false above rest = refl

-- they stand in order
pub insert_keeps : (n cell : ℕ) (own : Bounds) (ks : List CellBounds) → cell < n
    → is_of cell (slice_get ks (place_in cell ks)) ≡ false → are_descending n ks ≡ true
    → are_descending n (insert ks (place_in cell ks) (cell_bounds cell own)) ≡ true
insert_keeps n cell own [] less none is = headed n (cell_bounds cell own) [] less refl
insert_keeps n cell own (k ∷ ks) less none is =
    by (nat_lt cell k.cell) refl none (λ under not_there.
    insert_keeps k.cell cell own ks under not_there (heads n k ks is).rest) where
      h : Heads n k ks
      h = heads n k ks is

      by : (b : Bool) → nat_lt cell k.cell ≡ b
          → is_of cell (slice_get (k ∷ ks) (cond b (suc (place_in cell ks)) 0)) ≡ false
          → (cell < k.cell → is_of cell (slice_get ks (place_in cell ks)) ≡ false
          → are_descending k.cell (insert ks (place_in cell ks) (cell_bounds cell own)) ≡ true)
          → are_descending n
          (insert (k ∷ ks) (cond b (suc (place_in cell ks)) 0) (cell_bounds cell own)) ≡ true
      by true above not_there rest =
          headed n k (insert ks (place_in cell ks) (cell_bounds cell own)) h.below
          (rest (ltb-true cell k.cell above) not_there)
      by false above not_there rest =
          let not_above = ltb-false cell k.cell above in
          let other : k.cell ≢ cell = λ same. false≢true
          (sym not_there ∙ eq-eqb k.cell cell same) in
          let lies : k.cell < cell = elim (cases_order k.cell cell) [
            | inl same ↦ absurd (other same)
            | inr apart ↦ elim apart [
              | inl under ↦ under
              | inr over ↦ absurd (omega (arith, not_above, over))
            ]
          ] in
          headed n (cell_bounds cell own) (k ∷ ks) less (headed cell k ks lies h.rest)

-- bounds of a cell of which some were known
pub replaced : (cell : ℕ) (own : Bounds) (cells : List Cell) (ks : List CellBounds)
    → is_of cell (slice_get ks (place_in cell ks)) ≡ true
    → known_bounds cells (slice_set ks (place_in cell ks) (cell_bounds cell own))
    ≡ slice_set (known_bounds cells ks) cell own
replaced cell own cells [] there = absurd (false≢true there)
replaced cell own cells (k ∷ ks) there =
    by (nat_lt cell k.cell) refl there (λ is_there. replaced cell own cells ks is_there) where
      by : (b : Bool) → nat_lt cell k.cell ≡ b
          → is_of cell (slice_get (k ∷ ks) (cond b (suc (place_in cell ks)) 0)) ≡ true
          → (is_of cell (slice_get ks (place_in cell ks)) ≡ true
          → known_bounds cells (slice_set ks (place_in cell ks) (cell_bounds cell own))
          ≡ slice_set (known_bounds cells ks) cell own)
          → known_bounds cells
          (slice_set (k ∷ ks) (cond b (suc (place_in cell ks)) 0) (cell_bounds cell own))
          ≡ slice_set (slice_set (known_bounds cells ks) k.cell k.own) cell own
      by true above is_there rest =
          let less = ltb-true cell k.cell above in
          ap (λ l. slice_set l k.cell k.own) (rest is_there)
          ∙ set_both (known_bounds cells ks) cell k.cell own k.own
          (λ same. let eq : cell ≡ k.cell = same in omega (arith, less, eq))
      by false above is_there rest =
          let same : k.cell ≡ cell = (Decides-eqb k.cell cell).0 is_there in
          sym (ap (λ c. slice_set (slice_set (known_bounds cells ks) c k.own) cell own) same
          ∙ set-set (known_bounds cells ks) cell k.own own)

pub replace_keeps : (n cell : ℕ) (own : Bounds) (ks : List CellBounds)
    → is_of cell (slice_get ks (place_in cell ks)) ≡ true → are_descending n ks ≡ true
    → are_descending n (slice_set ks (place_in cell ks) (cell_bounds cell own)) ≡ true
replace_keeps n cell own [] there is = absurd (false≢true there)
replace_keeps n cell own (k ∷ ks) there is =
    by (nat_lt cell k.cell) there (λ is_there.
    replace_keeps k.cell cell own ks is_there (heads n k ks is).rest) where
      h : Heads n k ks
      h = heads n k ks is

      by : (b : Bool) → is_of cell (slice_get (k ∷ ks) (cond b (suc (place_in cell ks)) 0)) ≡ true
          → (is_of cell (slice_get ks (place_in cell ks)) ≡ true
          → are_descending k.cell (slice_set ks (place_in cell ks) (cell_bounds cell own)) ≡ true)
          → are_descending n
          (slice_set (k ∷ ks) (cond b (suc (place_in cell ks)) 0) (cell_bounds cell own)) ≡ true
      by true is_there rest =
          headed n k (slice_set ks (place_in cell ks) (cell_bounds cell own)) h.below
          (rest is_there)
      by false is_there rest =
          let same : k.cell ≡ cell = (Decides-eqb k.cell cell).0 is_there in
          headed n (cell_bounds cell own) ks (subst (λ c. c < n) same h.below)
          (subst (λ c. are_descending c ks ≡ true) same h.rest)
