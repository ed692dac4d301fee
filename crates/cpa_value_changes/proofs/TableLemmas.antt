-- That halving finds where the facts of a cell and of later ones begin, and so the value that facts
-- in the order of the cells say of a cell.
use Rattle.std.proofs.Common.{◌≡◌, ℕ, zero, suc, ◌+◌, ◌<◌, ◌≤◌, ℤ, Bool, true, false}
use Rattle.std.proofs.Common.{List, [], ◌∷◌, inl, inr, refl, sym, ap, ◌∙◌, arith, cond, length}
use Rattle.std.specs.Prelude.{Option, None, Some, ◌==◌, nat_lt, slice_get}
use Rattle.std.specs.List.{slice_index_or}
use Rattle.std.proofs.lemmas.Bool.{ltb-true, lt-ltb, le-ltb, ne_eqb, cases_lt, false≢true}
use Rattle.std.proofs.lemmas.List.{get_or_past}
use Rattle.std.proofs.lemmas.List.FromFn.{length-map-range_with_len, get_or-map-range_with_len}
use Rattle.cpa_facts.specs.declared.fact.Fact.{Fact}
use Rattle.cpa_facts.specs.declared.fact.Fact.TheVariants.{At, Stack, Equals, Within, Truth}
use Rattle.cpa_value_changes.specs.Cells.{first_value, known_cells}
use Rattle.cpa_value_changes.specs.Tables.{are_ordered, is_before, place_in, own_value}
use Rattle.cpa_value_changes.specs.lemmas.Ordered.{begins, none_below}

-- ---- the place of a cell

-- a fact before those of the cell is of an earlier one
low_before : (n low cell k : ℕ) (fs : List Fact) → are_ordered n low fs ≡ true
    → is_before cell (slice_get fs k) ≡ true → low < cell
low_before n low cell k [] is before = absurd (false≢true before)
low_before n low cell zero (Equals own v ∷ fs) is before =
    let above = (begins n low own v fs is).above in
    let less = ltb-true own cell before in
    omega (arith, above, less)
low_before n low cell (suc k) (Equals own v ∷ fs) is before =
    let b = begins n low own v fs is in
    let above = b.above in
    let less = low_before n (own + 1) cell k fs b.rest before in
    omega (arith, above, less)
low_before n low cell k (At p ∷ fs) is before = absurd (false≢true is)
low_before n low cell k (Stack s ∷ fs) is before = absurd (false≢true is)
low_before n low cell k (Within c lo hi ∷ fs) is before = absurd (false≢true is)
low_before n low cell k (Truth e h ∷ fs) is before = absurd (false≢true is)

pub place_behind : (n low cell k : ℕ) (fs : List Fact) → are_ordered n low fs ≡ true
    → is_before cell (slice_get fs k) ≡ true → k < place_in cell fs
place_behind n low cell k [] is before = absurd (false≢true before)
place_behind n low cell zero (Equals own v ∷ fs) is before =
    let e = ap (λ b. cond b (suc (place_in cell fs)) 0) before in omega (arith, e)
place_behind n low cell (suc k) (Equals own v ∷ fs) is before =
    let b = begins n low own v fs is in
    let far = low_before n (own + 1) cell k fs b.rest before in
    let e = ap (λ b. cond b (suc (place_in cell fs)) 0) (lt-ltb own cell (omega (arith, far))) in
    let rest = place_behind n (own + 1) cell k fs b.rest before in
    omega (arith, e, rest)
place_behind n low cell k (At p ∷ fs) is before = absurd (false≢true is)
place_behind n low cell k (Stack s ∷ fs) is before = absurd (false≢true is)
place_behind n low cell k (Within c lo hi ∷ fs) is before = absurd (false≢true is)
place_behind n low cell k (Truth e h ∷ fs) is before = absurd (false≢true is)

pub place_before : (cell k : ℕ) (fs : List Fact) → is_before cell (slice_get fs k) ≡ false
    → place_in cell fs ≤ k
place_before cell k [] not = omega arith
place_before cell zero (Equals own v ∷ fs) not =
    let e = ap (λ b. cond b (suc (place_in cell fs)) 0) not in omega (arith, e)
place_before cell (suc k) (Equals own v ∷ fs) not =
    by (nat_lt own cell) (place_before cell k fs not)
  where
    by : (b : Bool) → place_in cell fs ≤ k → cond b (suc (place_in cell fs)) 0 ≤ suc k
    by true rest = omega (arith, rest)
    by false rest = omega arith
place_before cell k (At p ∷ fs) not = omega arith
place_before cell k (Stack s ∷ fs) not = omega arith
place_before cell k (Within c lo hi ∷ fs) not = omega arith
place_before cell k (Truth e h ∷ fs) not = omega arith

pub place_within : (cell : ℕ) (fs : List Fact) → place_in cell fs ≤ length fs
place_within cell [] = omega arith
place_within cell (Equals own v ∷ fs) = by (nat_lt own cell) (place_within cell fs)
  where
    by : (b : Bool) → place_in cell fs ≤ length fs
        → cond b (suc (place_in cell fs)) 0 ≤ suc (length fs)
    by true rest = omega (arith, rest)
    by false rest = omega arith
place_within cell (At p ∷ fs) = omega arith
place_within cell (Stack s ∷ fs) = omega arith
place_within cell (Within c lo hi ∷ fs) = omega arith
place_within cell (Truth e h ∷ fs) = omega arith

-- ---- the value of a cell

-- nothing is said of a cell behind the last one
none_past : (n low cell : ℕ) (fs : List Fact) → are_ordered n low fs ≡ true → n ≤ cell
    → first_value fs cell ≡ None
none_past n low cell [] is past = refl
none_past n low cell (Equals own v ∷ fs) is past =
    let b = begins n low own v fs is in
    let below = b.below in
    ap (λ t. cond t (Some v) (first_value fs cell))
    (ne_eqb own cell (λ same. let eq : own ≡ cell = same in omega (arith, below, past, eq)))
    ∙ none_past n (own + 1) cell fs b.rest past
none_past n low cell (At p ∷ fs) is past = absurd (false≢true is)
none_past n low cell (Stack s ∷ fs) is past = absurd (false≢true is)
none_past n low cell (Within c lo hi ∷ fs) is past = absurd (false≢true is)
none_past n low cell (Truth e h ∷ fs) is past = absurd (false≢true is)

-- the value of each cell is what the facts say of it
known_is : (n : ℕ) (fs : List Fact) (cell : ℕ) → are_ordered n 0 fs ≡ true
    → slice_index_or (known_cells n fs) cell None ≡ first_value fs cell
known_is n fs cell is = elim (cases_lt cell n) [
  | inl less ↦ get_or-map-range_with_len (first_value fs) 0 n cell cell None less (omega arith)
  | inr past ↦
      let long = length-map-range_with_len (first_value fs) 0 n in
      get_or_past (known_cells n fs) cell None (omega (arith, long, past))
      ∙ sym (none_past n 0 cell fs is past)
]

-- the fact at the place of the cell says what all say of it
at_place : (n low cell : ℕ) (fs : List Fact) → are_ordered n low fs ≡ true
    → own_value cell (slice_get fs (place_in cell fs)) ≡ first_value fs cell
at_place n low cell [] is = refl
at_place n low cell (Equals own v ∷ fs) is = elim (cases_lt own cell) [
  | inl less ↦
      ap (λ b. own_value cell (slice_get (Equals own v ∷ fs) (cond b (suc (place_in cell fs)) 0)))
      (lt-ltb own cell less)
      ∙ (at_place n (own + 1) cell fs (begins n low own v fs is).rest
      ∙ ap (λ t. cond t (Some v) (first_value fs cell)) (sym (ne_eqb own cell
      (λ same. let eq : own ≡ cell = same in omega (arith, less, eq)))))
  | inr past ↦
      ap (λ b. own_value cell (slice_get (Equals own v ∷ fs) (cond b (suc (place_in cell fs)) 0)))
      (le-ltb own cell past)
      ∙ ap (λ o. cond (own == cell) (Some v) o)
      (sym (none_below n (own + 1) cell fs (begins n low own v fs is).rest (omega (arith, past))))
]
at_place n low cell (At p ∷ fs) is = absurd (false≢true is)
at_place n low cell (Stack s ∷ fs) is = absurd (false≢true is)
at_place n low cell (Within c lo hi ∷ fs) is = absurd (false≢true is)
at_place n low cell (Truth e h ∷ fs) is = absurd (false≢true is)

pub found : (n cell place : ℕ) (facts : List Fact) (fact : Option Fact) (value : Option ℤ)
    → are_ordered n 0 facts ≡ true → place ≡ place_in cell facts
    → fact ≡ slice_get facts place → value ≡ own_value cell fact
    → value ≡ slice_index_or (known_cells n facts) cell None
found n cell place facts fact value ordered here there is =
    is
    ∙ (ap (own_value cell) (there ∙ ap (slice_get facts) here)
    ∙ (at_place n 0 cell facts ordered ∙ sym (known_is n facts cell ordered)))
