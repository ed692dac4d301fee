-- What an act makes of the bounds of cells has the values of the stores to which its step leads,
-- and is of the types of the cells.
use Rattle.std.proofs.Common.{◌≡◌, ◌≢◌, ℕ, ◌+◌, ◌<◌, ◌≤◌, ℤ, pos, ◌≤ℤ◌, Bool, true, false, List, []}
use Rattle.std.proofs.Common.{◌∷◌, refl, sym}
use Rattle.std.proofs.Common.{ap, ◌∙◌, subst, arith, cond}
use Rattle.std.specs.Prelude.{zero, suc, ◌==◌, nat_lt, Option, None, Some, slice_get}
use Rattle.std.specs.Prelude.{slice_set, IsSomeAnd, IfSome, option_map, option_and_then}
use Rattle.std.proofs.lemmas.Int.{ints}
use Rattle.std.proofs.lemmas.Bool.Decides.{Decides-eqb, Decides-int_eq}
use Rattle.cpa_ints.specs.declared.integers.IntType.{IntType}
use Rattle.cpa_ints.specs.Integers.{IsInRange}
use Rattle.cpa_expr.specs.declared.tree.CmpOp.TheVariants as cmp
use Rattle.cpa_expr.specs.declared.tree.Expr.{Expr}
use Rattle.cpa_expr.specs.Shape.{AreCells, IsTyped, type_of}
use Rattle.cpa_expr.specs.Values.{value_of}
use Rattle.cpa_model.specs.declared.program.Cell.{Cell}
use Rattle.cpa_model.specs.declared.automaton.Act.{Act}
use Rattle.cpa_model.specs.declared.automaton.Act.TheVariants.{Skip, Assign, Assume, Input, Call}
use Rattle.cpa_model.specs.declared.automaton.Act.TheVariants.{Return}
use Rattle.cpa_model.specs.declared.automaton.Cfa.{Cfa}
use Rattle.cpa_model.specs.Expressions.{types_of}
use Rattle.cpa_model.specs.Steps.{StepsStore}
use Rattle.cpa_model.specs.Acts.{IsActOf}
use Rattle.cpa_folds.specs.lemmas.ScalarReads.{StaysInRange}
use Rattle.cpa_interval_bounds.specs.declared.bounds.Bounds.{Bounds}
use Rattle.cpa_interval_bounds.specs.declared.elements.Places.{Places}
use Rattle.cpa_interval_bounds.specs.Bounds.{IsOf, Has, range_of, hull}
use Rattle.cpa_interval_bounds.specs.Elements.{places_of, named}
use Rattle.cpa_interval_bounds.specs.ExpressionBounds.{AreOf, LieWithin, bounds_of}
use Rattle.cpa_interval_bounds.specs.Laws.{bounds_have_the_value, bounds_have_the_type}
use Rattle.cpa_interval_bounds.specs.lemmas.Sets.{hull_left, hull_right}
use Rattle.cpa_interval_bounds.specs.lemmas.Ranges.{range_of-is, hull-is}
use Rattle.cpa_interval_bounds.specs.lemmas.Reads.{AreInside, named_inside, Names, named_has}
use Rattle.cpa_interval_bounds.specs.lemmas.TruthSets.{SomeHas}
use Rattle.cpa_interval_acts.specs.Cuts.{cut_side}
use Rattle.cpa_interval_acts.specs.Acts.{joined_at, joined_from, stored, placed, written, indexed}
use Rattle.cpa_interval_acts.specs.Acts.{assigned, freed, after_act}
use Rattle.cpa_interval_acts.specs.lemmas.ZipLemmas.{set_within, both_set, value_set, set_of}
use Rattle.cpa_interval_acts.specs.lemmas.ZipLemmas.{value_in}
use Rattle.cpa_interval_acts.specs.lemmas.ZipLemmas.{type_in, type_of_cell}
use Rattle.cpa_interval_acts.specs.lemmas.CutLemmas.{Lies, Are, are_then, side_lies, side_are}
use Rattle.cpa_interval_acts.specs.lemmas.AssumeLemmas.{assumed_are, assumed_lies}

-- ---- several cells

-- bounds that grow keep the values that they have
joined_at_lies : (cell : ℕ) (v : Bounds) (bs : List Bounds) (vs : List ℤ) → LieWithin bs vs
    → LieWithin (joined_at cell v (slice_get bs cell) bs) vs
joined_at_lies cell v bs vs all = by (slice_get bs cell) refl where
  by : (o : Option Bounds) → slice_get bs cell ≡ o → LieWithin (joined_at cell v o bs) vs
  by None is = all
  by (Some own) is = set_within bs vs cell (hull own v) all (λ x at.
      hull_left own v x (value_in bs vs cell own x all is at))

joined_lies : (first n : ℕ) (v : Bounds) (bs : List Bounds) (vs : List ℤ) → LieWithin bs vs
    → LieWithin (joined_from first n v bs) vs
joined_lies first zero v bs vs all = all
joined_lies first (suc n) v bs vs all =
    joined_at_lies (first + n) v (joined_from first n v bs) vs (joined_lies first n v bs vs all)

-- the bounds of a cell have the numbers that come, if the cell has bounds
abbrev TakesAt : ℕ → ℤ → List Bounds → Type 0
TakesAt cell w bs = (b : Bounds) → slice_get bs cell ≡ Some b → Has b w

pub set_same : (bs : List Bounds) (k : ℕ) (b c : Bounds) → slice_get (slice_set bs k b) k ≡ Some c
    → b ≡ c
set_same [] k b c is = absurd (cc)
set_same (x ∷ bs) zero b c is = cc
set_same (x ∷ bs) (suc k) b c is = set_same bs k b c is

pub set_other : (bs : List Bounds) (k j : ℕ) (b : Bounds) → j ≢ k
    → slice_get (slice_set bs k b) j ≡ slice_get bs j
set_other [] k j b differs = refl
set_other (x ∷ bs) zero zero b differs = absurd (differs refl)
set_other (x ∷ bs) zero (suc j) b differs = refl
set_other (x ∷ bs) (suc k) zero b differs = refl
set_other (x ∷ bs) (suc k) (suc j) b differs = set_other bs k j b (λ e. differs (ap suc e))

-- numbers that the test tells apart
pub told_apart : (j k : ℕ) → (j == k) ≡ false → j ≢ k
told_apart j k is e = absurd (cc ((Decides-eqb j k).1 e, is))

joined_here : (cell : ℕ) (v : Bounds) (bs : List Bounds) (w : ℤ) → Has v w
    → TakesAt cell w (joined_at cell v (slice_get bs cell) bs)
joined_here cell v bs w has = by (slice_get bs cell) refl where
  by : (o : Option Bounds) → slice_get bs cell ≡ o
      → (b : Bounds) → slice_get (joined_at cell v o bs) cell ≡ Some b → Has b w
  by None is b at = absurd (cc (is, at))
  by (Some own) is b at =
      subst (λ x. Has x w) (set_same bs cell (hull own v) b at) (hull_right own v w has)

joined_there : (cell other : ℕ) (v : Bounds) (bs : List Bounds) (w : ℤ)
    → (other == cell) ≡ false → TakesAt other w bs
    → TakesAt other w (joined_at cell v (slice_get bs cell) bs)
joined_there cell other v bs w differs takes = by (slice_get bs cell) where
  by : (o : Option Bounds) → (b : Bounds) → slice_get (joined_at cell v o bs) other ≡ Some b
      → Has b w
  by None b at = takes b at
  by (Some own) b at = takes b
      (sym (set_other bs cell other (hull own v) (told_apart other cell differs)) ∙ at)

joined_takes : (first n j : ℕ) (v : Bounds) (bs : List Bounds) (w : ℤ) → j < n → Has v w
    → TakesAt (first + j) w (joined_from first n v bs)
joined_takes first zero j v bs w less has = absurd (omega arith)
joined_takes first (suc n) j v bs w less has =
    by (first + j == first + n) refl (λ inner. joined_takes first n j v bs w inner has) where
      by : (x : Bool) → (first + j == first + n) ≡ x
          → (j < n → TakesAt (first + j) w (joined_from first n v bs))
          → TakesAt (first + j) w (joined_from first (suc n) v bs)
      by true same before =
          let here : first + j ≡ first + n = (Decides-eqb (first + j) (first + n)).0 same in
          subst (λ k. TakesAt k w (joined_from first (suc n) v bs)) (sym here)
          (joined_here (first + n) v (joined_from first n v bs) w has)
      by false differs before =
          let other : j ≢ n = λ e. absurd (cc (
            (Decides-eqb (first + j) (first + n)).1
                (ap (λ k. first + k) e),
            differs,
          )) in
          joined_there (first + n) (first + j) v (joined_from first n v bs) w differs
          (before (omega (arith, less, other)))

-- a write of a number of these to one of the cells
stored_lies : (v : Bounds) (bs : List Bounds) (vs : List ℤ) (p : Places) (k : ℕ) (w : ℤ)
    → LieWithin bs vs → Has v w → k < p.count
    → LieWithin (stored v bs p) (slice_set vs (p.first + k) w)
stored_lies v bs vs p k w all has less = by (p.count == 1) refl where
  by : (x : Bool) → (p.count == 1) ≡ x
      → LieWithin (cond x (slice_set bs p.first v) (joined_from p.first p.count v bs))
      (slice_set vs (p.first + k) w)
  by true one =
      let single : p.count ≡ 1 = (Decides-eqb p.count 1).0 one in
      let here : p.first ≡ p.first + k = omega (arith, single, less) in
      subst (λ c. LieWithin (slice_set bs p.first v) (slice_set vs c w)) here
      (both_set bs vs p.first v w all has)
  by false more =
      value_set (joined_from p.first p.count v bs) vs (p.first + k) w
      (joined_lies p.first p.count v bs vs all)
      (joined_takes p.first p.count k v bs w less has)

placed_lies : (base len : ℕ) (p q : Option Bounds) (bs : List Bounds) (vs : List ℤ) (i : ℕ) (w : ℤ)
    → LieWithin bs vs → i < len → SomeHas p (pos i) → SomeHas q w
    → Lies (slice_set vs (base + i) w) (placed base len p q bs)
placed_lies base len None q bs vs i w all less at value = absurd at
placed_lies base len (Some index) None bs vs i w all less at value = absurd value
placed_lies base len (Some index) (Some v) bs vs i w all less at value =
    by (named base len index) (named_has base len i index less at) where
      by : (o : Option Places) → IsSomeAnd o (Names base i)
          → Lies (slice_set vs (base + i) w) (option_map (stored v bs) o)
      by None h = absurd h
      by (Some p) h =
          subst (λ c. LieWithin (stored v bs p) (slice_set vs c w)) h.same
          (stored_lies v bs vs p h.place w all value h.below)

-- ---- types

joined_are : (ts : List IntType) (t : IntType) (base len start first n : ℕ) (v : Bounds)
    (bs : List Bounds) → AreOf ts bs → AreCells ts base len t → first ≡ base + start
    → start + n ≤ len → IsOf t v → AreOf ts (joined_from first n v bs)
joined_are ts t base len start first zero v bs all cells from within of = all
joined_are ts t base len start first (suc n) v bs all cells from within of =
    let rest = joined_from first n v bs in
    let are = joined_are ts t base len start first n v bs all cells from (omega arith) of in
    by (slice_get rest (first + n)) refl are where
      by : (o : Option Bounds) → slice_get (joined_from first n v bs) (first + n) ≡ o
          → AreOf ts (joined_from first n v bs)
          → AreOf ts (joined_at (first + n) v o (joined_from first n v bs))
      by None is are = are
      by (Some own) is are =
          let place : base + (start + n) ≡ first + n = omega (arith, from) in
          let at : slice_get ts (first + n) ≡ Some t =
          subst (λ c. slice_get ts c ≡ Some t) place
          (cells (start + n) (omega (arith, within))) in
          set_of ts (joined_from first n v bs) (first + n) (hull own v) are (λ u got.
          let same : t ≡ u = cc in
          subst (λ x. IsOf x (hull own v)) same
          (hull-is t own v (type_in ts (joined_from first n v bs) (first + n) t own are at is) of))

stored_are : (ts : List IntType) (t : IntType) (base len : ℕ) (p : Places) (v : Bounds)
    (bs : List Bounds) → AreOf ts bs → AreCells ts base len t → AreInside base len p → IsOf t v
    → AreOf ts (stored v bs p)
stored_are ts t base len p v bs all cells inside of = by (p.count == 1) where
  at : slice_get ts (base + inside.start) ≡ Some t
  at = let within = inside.within in let some = inside.some in
      cells inside.start (omega arith)

  by : (x : Bool) → AreOf ts (cond x (slice_set bs p.first v) (joined_from p.first p.count v bs))
  by true =
      set_of ts bs p.first v all (λ u got.
      let here : slice_get ts p.first ≡ Some t =
      subst (λ c. slice_get ts c ≡ Some t) (sym inside.first) at in
      let same : t ≡ u = cc in
      subst (λ x. IsOf x v) same of)
  by false =
      joined_are ts t base len inside.start p.first p.count v bs all cells inside.first
      inside.within of

placed_are : (ts : List IntType) (t : IntType) (base len : ℕ) (p q : Option Bounds)
    (bs : List Bounds) → AreOf ts bs → AreCells ts base len t → IfSome q (IsOf t)
    → Are ts (placed base len p q bs)
placed_are ts t base len None q bs all cells of = tt
placed_are ts t base len (Some index) None bs all cells of = tt
placed_are ts t base len (Some index) (Some v) bs all cells of =
    by (named base len index) refl where
      by : (o : Option Places) → named base len index ≡ o → Are ts (option_map (stored v bs) o)
      by None is = tt
      by (Some p) is =
          stored_are ts t base len p v bs all cells (named_inside base len index p is) of

-- ---- the index

places_order : (len : ℕ) → 1 ≤ len → (places_of len).lo ≤ℤ (places_of len).hi
places_order len some = omega (arith, ints)

indexed_lies : (stays : StaysInRange) (types : List IntType) (len : ℕ) (index : Expr)
    (bs : List Bounds) (vs : List ℤ) (i : ℕ) → LieWithin bs vs → IsTyped types index → i < len
    → value_of index vs ≡ Some (pos i) → Lies vs (indexed len index bs)
indexed_lies stays types len index bs vs i all typed less at = by (nat_lt 1 len) where
  by : (x : Bool) → Lies vs (cond x (cut_side cmp.Eq index (places_of len) bs) (Some bs))
  by true =
      side_lies stays types cmp.Eq index (places_of len) bs vs (pos i) (pos i) all typed at
      (record { low = omega (arith, ints); high = omega (arith, ints) })
      ((Decides-int_eq (pos i) (pos i)).1 refl)
  by false = all

indexed_are : (ts : List IntType) (len : ℕ) (index : Expr) (bs : List Bounds) → AreOf ts bs
    → 1 ≤ len → Are ts (indexed len index bs)
indexed_are ts len index bs all some = by (nat_lt 1 len) where
  by : (x : Bool) → Are ts (cond x (cut_side cmp.Eq index (places_of len) bs) (Some bs))
  by true = side_are ts cmp.Eq index (places_of len) bs all (places_order len some)
  by false = all

-- ---- writes

written_lies : (types : List IntType) (base len : ℕ) (index value : Expr) (bs : List Bounds)
    (vs : List ℤ) (i : ℕ) (w : ℤ) → AreOf types bs → LieWithin bs vs → IsTyped types index
    → IsTyped types value → i < len → value_of index vs ≡ Some (pos i)
    → value_of value vs ≡ Some w
    → Lies (slice_set vs (base + i) w) (written base len index value bs)
written_lies types base len index value bs vs i w are all ti tv less at is =
    placed_lies base len (bounds_of index bs) (bounds_of value bs) bs vs i w all less
    (subst (λ o. IfSome o (SomeHas (bounds_of index bs))) at
    (bounds_have_the_value.value types bs vs index are all ti))
    (subst (λ o. IfSome o (SomeHas (bounds_of value bs))) is
    (bounds_have_the_value.value types bs vs value are all tv))

assigned_lies : (stays : StaysInRange) (types : List IntType) (base len : ℕ) (index value : Expr)
    (bs : List Bounds) (vs : List ℤ) (i : ℕ) (w : ℤ) → AreOf types bs → LieWithin bs vs
    → IsTyped types index → IsTyped types value → 1 ≤ len → i < len
    → value_of index vs ≡ Some (pos i) → value_of value vs ≡ Some w
    → Lies (slice_set vs (base + i) w) (assigned base len index value bs)
assigned_lies stays types base len index value bs vs i w are all ti tv some less at is =
    by (indexed len index bs) (indexed_lies stays types len index bs vs i all ti less at)
    (indexed_are types len index bs are some) where
      by : (o : Option (List Bounds)) → Lies vs o → Are types o
          → Lies (slice_set vs (base + i) w)
          (option_and_then (written base len index value) o)
      by None lies of = absurd lies
      by (Some after) lies of =
          written_lies types base len index value after vs i w of lies ti tv less at is

-- ---- acts

-- what an act makes of bounds has the values after its step
pub act_lies : (stays : StaysInRange) (cfa : Cfa) (act : Act) (bs : List Bounds) (old new : List ℤ)
    → IsActOf cfa act → AreOf (types_of cfa.cells) bs → LieWithin bs old
    → StepsStore cfa.cells act old new → Lies new (after_act cfa.cells act bs)
act_lies stays cfa Skip bs old new sound are all steps = subst (LieWithin bs) (sym steps) all
act_lies stays cfa (Assign base len index value) bs old new sound are all steps =
    subst (λ vs. Lies vs (assigned base len index value bs)) (sym steps.after)
    (assigned_lies stays (types_of cfa.cells) base len index value bs old steps.place steps.written
    are all sound.1.typed sound.2.typed sound.0 steps.inside steps.index_is steps.value_is)
act_lies stays cfa (Assume test holds) bs old new sound are all steps =
    subst (λ vs. Lies vs (after_act cfa.cells (Assume test holds) bs)) (sym steps.1)
    (assumed_lies stays (types_of cfa.cells) old test holds bs sound.typed are all steps.0)
act_lies stays cfa (Input cell) bs old new sound are all steps =
    subst (LieWithin (freed cell (slice_get cfa.cells cell) bs)) (sym steps.2)
    (by (slice_get cfa.cells cell) steps.1) where
      by : (o : Option Cell) → IsSomeAnd o (λ c. IsInRange c.ty steps.0)
          → LieWithin (freed cell o bs) (slice_set old cell steps.0)
      by None h = absurd h
      by (Some c) h = both_set bs old cell (range_of c.ty) steps.0 all
          (record { low = h.0; high = h.1 })
act_lies stays cfa (Call site) bs old new sound are all steps =
    subst (LieWithin bs) (sym steps) all
act_lies stays cfa (Return site) bs old new sound are all steps =
    subst (LieWithin bs) (sym steps) all

-- and is of the types of the cells
pub act_are : (cfa : Cfa) (act : Act) (bs : List Bounds) → IsActOf cfa act
    → AreOf (types_of cfa.cells) bs → Are (types_of cfa.cells) (after_act cfa.cells act bs)
act_are cfa Skip bs sound are = are
act_are cfa (Assign base len index value) bs sound are =
    let types = types_of cfa.cells in
    are_then types (indexed len index bs) (written base len index value)
    (indexed_are types len index bs are sound.0)
    (λ after of. placed_are types (type_of value) base len (bounds_of index after)
    (bounds_of value after) after of sound.3
    (bounds_have_the_type.typed types after value of sound.2.typed))
act_are cfa (Assume test holds) bs sound are =
    assumed_are (types_of cfa.cells) test holds bs sound.typed are
act_are cfa (Input cell) bs sound are = by (slice_get cfa.cells cell) refl where
  by : (o : Option Cell) → slice_get cfa.cells cell ≡ o
      → AreOf (types_of cfa.cells) (freed cell o bs)
  by None is = are
  by (Some c) is =
      set_of (types_of cfa.cells) bs cell (range_of c.ty) are (λ t at.
      let own = type_of_cell cfa.cells cell c is in
      let same : c.ty ≡ t = cc in
      subst (λ u. IsOf u (range_of c.ty)) same (range_of-is c.ty))
act_are cfa (Call site) bs sound are = are
act_are cfa (Return site) bs sound are = are
