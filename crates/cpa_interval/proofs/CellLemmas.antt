-- What facts say of the bounds of cells.
use Rattle.std.proofs.Common.{◌≡◌, ℕ, ℤ, ◌≤ℤ◌, List, [], ◌∷◌, refl, ap, ◌∙◌, subst, length}
use Rattle.std.specs.Prelude.{zero, suc, Option, None, Some, slice_get, slice_set, IsSomeAnd}
use Rattle.std.specs.List.{AllByRecursion}
use Rattle.cpa_ints.specs.Integers.{IsInRange}
use Rattle.cpa_model.specs.declared.program.Cell.{Cell}
use Rattle.cpa_facts.specs.declared.fact.Fact.{Fact}
use Rattle.cpa_facts.specs.declared.fact.Fact.TheVariants.{At, Stack, Equals, Within, Truth}
use Rattle.cpa_model.specs.declared.states.State.{State}
use Rattle.cpa_model.specs.Expressions.{types_of}
use Rattle.cpa_model.specs.Facts.{FactHolds, IsFact}
use Rattle.cpa_expr.specs.Cells.{AreValues}
use Rattle.cpa_interval_bounds.specs.declared.bounds.Bounds.{Bounds}
use Rattle.cpa_interval_bounds.specs.Bounds.{Has, bounds}
use Rattle.cpa_interval_bounds.specs.ExpressionBounds.{AreOf, LieWithin}
use Rattle.cpa_interval.specs.Cells.{with_fact, with_facts, cell_bounds}
use Rattle.cpa_interval_acts.specs.Cells.{ranges_of}
use Rattle.cpa_interval_acts.specs.lemmas.ZipLemmas.{set_within, set_of, type_at, ranges_are}
use Rattle.cpa_interval_acts.specs.lemmas.ZipLemmas.{ranges_lie}
use Rattle.cpa_interval_acts.specs.lemmas.ZipLemmas.{as_many, types_length}

-- ---- of a state

value_there : (o : Option ℤ) (v lo hi : ℤ) → IsSomeAnd o (λ w. (lo ≤ℤ w) × (w ≤ℤ hi))
    → o ≡ Some v → Has (bounds lo hi) v
value_there None v lo hi h is = absurd h
value_there (Some w) v lo hi h is =
    let same : w ≡ v = cc in
    subst (Has (bounds lo hi)) same (record { low = h.0; high = h.1 })

fact_lies : (s : State) (f : Fact) (bs : List Bounds) → FactHolds s f
    → LieWithin bs s.store.values → LieWithin (with_fact f bs) s.store.values
fact_lies s (Within c lo hi) bs holds all =
    set_within bs s.store.values c (bounds lo hi) all (λ v at.
    value_there (slice_get s.store.values c) v lo hi holds at)
fact_lies s (At p) bs holds all = all
fact_lies s (Stack sites) bs holds all = all
fact_lies s (Equals c v) bs holds all = all
fact_lies s (Truth e h) bs holds all = all

facts_lie : (s : State) (fs : List Fact) (bs : List Bounds) → AllByRecursion (FactHolds s) fs
    → LieWithin bs s.store.values → LieWithin (with_facts fs bs) s.store.values
facts_lie s [] bs holds all = all
facts_lie s (f ∷ fs) bs holds all =
    fact_lies s f (with_facts fs bs) holds.0 (facts_lie s fs bs holds.1 all)

-- the values of a state lie within the bounds of its elements
pub cells_lie : (cs : List Cell) (s : State) (fs : List Fact) → AllByRecursion (FactHolds s) fs
    → AreValues (types_of cs) s.store.values → LieWithin (cell_bounds cs fs) s.store.values
cells_lie cs s fs holds all =
    facts_lie s fs (ranges_of cs) holds (ranges_lie cs s.store.values all)

-- ---- of the types

fact_are : (cs : List Cell) (points : ℕ) (f : Fact) (bs : List Bounds) → IsFact cs points f
    → AreOf (types_of cs) bs → AreOf (types_of cs) (with_fact f bs)
fact_are cs points (Within c lo hi) bs is all =
    set_of (types_of cs) bs c (bounds lo hi) all (λ t at. record {
      order = is.2;
      low = (type_at (λ u. IsInRange u lo) cs c t at is.0).0;
      high = (type_at (λ u. IsInRange u hi) cs c t at is.1).1;
    })
fact_are cs points (At p) bs is all = all
fact_are cs points (Stack sites) bs is all = all
fact_are cs points (Equals c v) bs is all = all
fact_are cs points (Truth e h) bs is all = all

facts_are : (cs : List Cell) (points : ℕ) (fs : List Fact) (bs : List Bounds)
    → AllByRecursion (IsFact cs points) fs → AreOf (types_of cs) bs
    → AreOf (types_of cs) (with_facts fs bs)
facts_are cs points [] bs is all = all
facts_are cs points (f ∷ fs) bs is all =
    fact_are cs points f (with_facts fs bs) is.0 (facts_are cs points fs bs is.1 all)

-- the bounds of a shaped element are of the types of the cells
pub cells_are : (cs : List Cell) (points : ℕ) (fs : List Fact)
    → AllByRecursion (IsFact cs points) fs → AreOf (types_of cs) (cell_bounds cs fs)
cells_are cs points fs is = facts_are cs points fs (ranges_of cs) is (ranges_are cs)

-- ---- their number

set_length : (bs : List Bounds) (k : ℕ) (b : Bounds) → length (slice_set bs k b) ≡ length bs
set_length [] k b = refl
set_length (x ∷ bs) zero b = refl
set_length (x ∷ bs) (suc k) b = ap suc (set_length bs k b)

fact_length : (f : Fact) (bs : List Bounds) → length (with_fact f bs) ≡ length bs
fact_length (Within c lo hi) bs = set_length bs c (bounds lo hi)
fact_length (At p) bs = refl
fact_length (Stack sites) bs = refl
fact_length (Equals c v) bs = refl
fact_length (Truth e h) bs = refl

facts_length : (fs : List Fact) (bs : List Bounds) → length (with_facts fs bs) ≡ length bs
facts_length [] bs = refl
facts_length (f ∷ fs) bs = fact_length f (with_facts fs bs) ∙ facts_length fs bs

-- each cell has bounds
pub cells_length : (cs : List Cell) (fs : List Fact) → length (cell_bounds cs fs) ≡ length cs
cells_length cs fs =
    facts_length fs (ranges_of cs)
    ∙ (as_many (types_of cs) (ranges_of cs) (ranges_are cs) ∙ types_length cs)
