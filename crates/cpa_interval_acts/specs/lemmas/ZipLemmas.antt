-- Bounds beside the types and the values of cells, after a change of one of them.
use Rattle.std.proofs.Common.{◌≡◌, ℕ, ℤ, List, [], ◌∷◌, refl, ap, subst, length}
use Rattle.std.specs.Prelude.{zero, suc, Some, slice_get, slice_set, IsSomeAnd}
use Rattle.cpa_ints.specs.declared.integers.IntType.{IntType}
use Rattle.cpa_expr.specs.Cells.{AreValues}
use Rattle.cpa_model.specs.declared.program.Cell.{Cell}
use Rattle.cpa_model.specs.Expressions.{types_of}
use Rattle.cpa_interval_bounds.specs.declared.bounds.Bounds.{Bounds}
use Rattle.cpa_interval_bounds.specs.Bounds.{IsOf, Has}
use Rattle.cpa_interval_bounds.specs.ExpressionBounds.{AreOf, LieWithin}
use Rattle.cpa_interval_bounds.specs.lemmas.Ranges.{range_of-is}
use Rattle.cpa_interval_acts.specs.Cells.{ranges_of}

-- bounds that have the cell's value
pub set_within : (bs : List Bounds) (vs : List ℤ) (k : ℕ) (b : Bounds) → LieWithin bs vs
    → ((v : ℤ) → slice_get vs k ≡ Some v → Has b v) → LieWithin (slice_set bs k b) vs
set_within [] [] k b all each = tt
set_within [] (v ∷ vs) k b all each = absurd all
set_within (x ∷ bs) [] k b all each = absurd all
set_within (x ∷ bs) (v ∷ vs) zero b all each = (each v refl, all.1)
set_within (x ∷ bs) (v ∷ vs) (suc k) b all each = (all.0, set_within bs vs k b all.1 each)

-- a value and bounds that have it
pub both_set : (bs : List Bounds) (vs : List ℤ) (k : ℕ) (b : Bounds) (w : ℤ) → LieWithin bs vs
    → Has b w → LieWithin (slice_set bs k b) (slice_set vs k w)
both_set [] [] k b w all has = tt
both_set [] (v ∷ vs) k b w all has = absurd all
both_set (x ∷ bs) [] k b w all has = absurd all
both_set (x ∷ bs) (v ∷ vs) zero b w all has = (has, all.1)
both_set (x ∷ bs) (v ∷ vs) (suc k) b w all has = (all.0, both_set bs vs k b w all.1 has)

-- a value that the cell's bounds have
pub value_set : (bs : List Bounds) (vs : List ℤ) (k : ℕ) (w : ℤ) → LieWithin bs vs
    → ((b : Bounds) → slice_get bs k ≡ Some b → Has b w) → LieWithin bs (slice_set vs k w)
value_set [] [] k w all each = tt
value_set [] (v ∷ vs) k w all each = absurd all
value_set (x ∷ bs) [] k w all each = absurd all
value_set (x ∷ bs) (v ∷ vs) zero w all each = (each x refl, all.1)
value_set (x ∷ bs) (v ∷ vs) (suc k) w all each = (all.0, value_set bs vs k w all.1 each)

-- bounds of the cell's type
pub set_of : (ts : List IntType) (bs : List Bounds) (k : ℕ) (b : Bounds) → AreOf ts bs
    → ((t : IntType) → slice_get ts k ≡ Some t → IsOf t b) → AreOf ts (slice_set bs k b)
set_of [] [] k b all each = tt
set_of [] (x ∷ bs) k b all each = absurd all
set_of (t ∷ ts) [] k b all each = absurd all
set_of (t ∷ ts) (x ∷ bs) zero b all each = (each t refl, all.1)
set_of (t ∷ ts) (x ∷ bs) (suc k) b all each = (all.0, set_of ts bs k b all.1 each)

-- the bounds of a cell have its value
pub value_in : (bs : List Bounds) (vs : List ℤ) (k : ℕ) (b : Bounds) (v : ℤ) → LieWithin bs vs
    → slice_get bs k ≡ Some b → slice_get vs k ≡ Some v → Has b v
value_in [] [] k b v all is at = absurd (cc)
value_in [] (w ∷ vs) k b v all is at = absurd all
value_in (x ∷ bs) [] k b v all is at = absurd all
value_in (x ∷ bs) (w ∷ vs) zero b v all is at =
    let one : x ≡ b = cc in
    let two : w ≡ v = cc in
    subst (λ y. Has y v) one (subst (Has x) two all.0)
value_in (x ∷ bs) (w ∷ vs) (suc k) b v all is at = value_in bs vs k b v all.1 is at

-- and of its value, which is there
pub some_value : (bs : List Bounds) (vs : List ℤ) (k : ℕ) (b : Bounds) → LieWithin bs vs
    → slice_get bs k ≡ Some b → IsSomeAnd (slice_get vs k) (Has b)
some_value [] [] k b all is = absurd (cc)
some_value [] (w ∷ vs) k b all is = absurd all
some_value (x ∷ bs) [] k b all is = absurd all
some_value (x ∷ bs) (w ∷ vs) zero b all is = let one : x ≡ b = cc in subst (λ y. Has y w) one all.0
some_value (x ∷ bs) (w ∷ vs) (suc k) b all is = some_value bs vs k b all.1 is

-- the bounds of a cell are of its type
pub type_in : (ts : List IntType) (bs : List Bounds) (k : ℕ) (t : IntType) (b : Bounds)
    → AreOf ts bs → slice_get ts k ≡ Some t → slice_get bs k ≡ Some b → IsOf t b
type_in [] [] k t b all at is = absurd (cc)
type_in [] (x ∷ bs) k t b all at is = absurd all
type_in (u ∷ ts) [] k t b all at is = absurd all
type_in (u ∷ ts) (x ∷ bs) zero t b all at is =
    let one : x ≡ b = cc in
    let two : u ≡ t = cc in
    subst (λ y. IsOf y b) two (subst (IsOf u) one all.0)
type_in (u ∷ ts) (x ∷ bs) (suc k) t b all at is = type_in ts bs k t b all.1 at is

-- and of some type, which is there
pub some_type : (ts : List IntType) (bs : List Bounds) (k : ℕ) (b : Bounds)
    → AreOf ts bs → slice_get bs k ≡ Some b → (t : IntType) × (slice_get ts k ≡ Some t) × IsOf t b
some_type [] [] k b all is = absurd (cc)
some_type [] (x ∷ bs) k b all is = absurd all
some_type (u ∷ ts) [] k b all is = absurd all
some_type (u ∷ ts) (x ∷ bs) zero b all is =
    let one : x ≡ b = cc in (u, refl, subst (IsOf u) one all.0)
some_type (u ∷ ts) (x ∷ bs) (suc k) b all is = some_type ts bs k b all.1 is

pub as_many : (ts : List IntType) (bs : List Bounds) → AreOf ts bs → length bs ≡ length ts
as_many [] [] all = refl
as_many [] (x ∷ bs) all = absurd all
as_many (t ∷ ts) [] all = absurd all
as_many (t ∷ ts) (x ∷ bs) all = ap suc (as_many ts bs all.1)

pub types_length : (cs : List Cell) → length (types_of cs) ≡ length cs
types_length [] = refl
types_length (c ∷ cs) = ap suc (types_length cs)

-- a cell's type, and what holds of it
pub type_at : (P : IntType → Type 0) (cs : List Cell) (k : ℕ) (t : IntType)
    → slice_get (types_of cs) k ≡ Some t → IsSomeAnd (slice_get cs k) (λ c. P c.ty) → P t
type_at P [] k t at h = absurd (cc)
type_at P (c ∷ cs) zero t at h = let same : c.ty ≡ t = cc in subst P same h
type_at P (c ∷ cs) (suc k) t at h = type_at P cs k t at h

pub type_of_cell : (cs : List Cell) (k : ℕ) (c : Cell) → slice_get cs k ≡ Some c
    → slice_get (types_of cs) k ≡ Some c.ty
type_of_cell [] k c at = absurd (cc)
type_of_cell (x ∷ cs) zero c at = let same : x ≡ c = cc in ap (λ (y : Cell). Some y.ty) same
type_of_cell (x ∷ cs) (suc k) c at = type_of_cell cs k c at

-- all numbers of the types
pub ranges_are : (cs : List Cell) → AreOf (types_of cs) (ranges_of cs)
ranges_are [] = tt
ranges_are (c ∷ cs) = (range_of-is c.ty, ranges_are cs)

pub ranges_lie : (cs : List Cell) (vs : List ℤ) → AreValues (types_of cs) vs
    → LieWithin (ranges_of cs) vs
ranges_lie [] [] all = tt
ranges_lie [] (v ∷ vs) all = absurd all
ranges_lie (c ∷ cs) [] all = absurd all
ranges_lie (c ∷ cs) (v ∷ vs) all =
    (record { low = all.0.0; high = all.0.1 }, ranges_lie cs vs all.1)
