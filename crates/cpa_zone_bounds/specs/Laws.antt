-- What the closure and the changes of bounds mean, and why widening ends. Each record is the
-- contract of a law of src/laws.rt; the lemma below it is its proof, which a lemma of another crate
-- cites.
use Rattle.std.specs.Prelude.{◌≡◌, ◌≢◌, ℕ, ◌+◌, ◌<◌, ◌≤◌, ℤ, ◌-ℤ◌, ◌≤ℤ◌, ◌<ℤ◌, List, length, None}
use Rattle.std.specs.Prelude.{Some}
use Rattle.cpa_zone_bounds.specs.Distances.{table, widest, AreRanges, AreOwn, AreBounds, Meets}
use Rattle.cpa_zone_bounds.specs.Distances.{AreInside}
use Rattle.cpa_zone_bounds.specs.Closures.{closure, IsClosed, Attains}
use Rattle.cpa_zone_bounds.specs.Changes.{tightened, changed, Become}
use Rattle.cpa_zone_bounds.specs.Limits.{joined, widened, steps}
use Rattle.cpa_zone_bounds.specs.declared.ranges.Range.{Range}
use Rattle.cpa_zone_bounds.specs.declared.changes.Change.{Change}
use Rattle.cpa_zone_bounds.specs.lemmas.Ways as ways
use Rattle.cpa_zone_bounds.specs.lemmas.Changing as changing
use Rattle.cpa_zone_bounds.specs.lemmas.Widening as widening

-- The closure of bounds, each number's difference from itself being 0: it is closed, the same
-- numbers meet it, and each of its bounds is the least, since some of these numbers attain it; and
-- where there is no closure, no numbers meet the bounds.
pub record ClosuresAreExact : Type 0 where
  pub closed : (n : ℕ) (most own : List ℤ) → AreOwn n most
      → closure n most ≡ Some own → IsClosed n own
  pub meets : (n : ℕ) (most own : List ℤ) (x : ℕ → ℤ)
      → AreOwn n most
      → closure n most ≡ Some own → Meets n most x → Meets n own x
  pub no_more : (n : ℕ) (most own : List ℤ) (x : ℕ → ℤ)
      → AreOwn n most
      → closure n most ≡ Some own → Meets n own x → Meets n most x
  pub least : (n : ℕ) (most own : List ℤ) (i j : ℕ)
      → AreOwn n most
      → closure n most ≡ Some own → i < n → j < n → (x : ℕ → ℤ) × Attains n own i j x
  pub none : (n : ℕ) (most : List ℤ) (x : ℕ → ℤ)
      → AreOwn n most
      → closure n most ≡ None → Meets n most x → ⊥

pub closures_are_exact : ClosuresAreExact
closures_are_exact = record {
  closed = ways.closure_closed;
  meets = λ n most own x owns is m. ways.closure_meets n most own x owns is m;
  no_more = λ n most own x owns is m. ways.closure_before n most own x owns is m;
  least = λ n most own i j owns is row column.
      ways.closure_least n most own i j owns is row column;
  none = λ n most x owns is m. ways.closure_none n most x owns is m;
}

-- What numbers meet changed bounds: each that comes of the change, in its ranges, of numbers that
-- met them before; and exactly those that met them and differ by no more than a bound that is
-- added.
pub record ChangesAreMet : Type 0 where
  pub at_first : (ranges : List Range) (x : ℕ → ℤ) → AreInside ranges x
      → Meets (length ranges) (table (length ranges) (widest ranges)) x
  pub of_change : (ranges : List Range) (change : Change) (most : List ℤ) (x y : ℕ → ℤ)
      → Meets (length ranges) most x → AreInside ranges y → Become ranges change x y
      → Meets (length ranges) (changed ranges change most) y
  pub of_bound : (ranges : List Range) (most : List ℤ) (i j : ℕ) (d : ℤ) (x : ℕ → ℤ)
      → AreBounds ranges most → i < length ranges → j < length ranges
      → Meets (length ranges) most x → (x i -ℤ x j) ≤ℤ d
      → Meets (length ranges) (tightened (length ranges) i j d most) x
  pub no_more : (ranges : List Range) (most : List ℤ) (i j : ℕ) (d : ℤ) (x : ℕ → ℤ)
      → AreBounds ranges most → i < length ranges → j < length ranges → AreInside ranges x
      → Meets (length ranges) (tightened (length ranges) i j d most) x
      → Meets (length ranges) most x × ((x i -ℤ x j) ≤ℤ d)

pub changes_are_met : ChangesAreMet
changes_are_met = record {
  at_first = changing.meets_widest;
  of_change = changing.meets_changed;
  of_bound = λ ranges most i j d x are row column meets less.
      changing.meets_tightened (length ranges) i j d most x are.square row column meets less;
  no_more = changing.tightened_meets;
}

-- Changed bounds are bounds, so that none leaves what is kept, and no sum of two wraps.
pub record BoundsStayKept : Type 0 where
  pub at_first : (ranges : List Range) → AreRanges ranges
      → AreBounds ranges (table (length ranges) (widest ranges))
  pub of_change : (ranges : List Range) (change : Change) (most : List ℤ) → AreBounds ranges most
      → AreBounds ranges (changed ranges change most)
  pub of_bound : (ranges : List Range) (i j : ℕ) (d : ℤ) (most : List ℤ) → i < length ranges
      → j < length ranges → i ≢ j → AreBounds ranges most
      → AreBounds ranges (tightened (length ranges) i j d most)
  pub of_closure : (ranges : List Range) (most own : List ℤ) → AreBounds ranges most
      → closure (length ranges) most ≡ Some own → AreBounds ranges own

pub bounds_stay_kept : BoundsStayKept
bounds_stay_kept = record {
  at_first = changing.widest-are;
  of_change = changing.changed-are;
  of_bound = changing.tightened-are;
  of_closure = ways.closure-are;
}

-- What bounds are merged to is no less than either, so that what meets one meets it; and a bound
-- that is widened has fewer steps left, if it moves.
pub record WideningEnds : Type 0 where
  pub joined_old : (old new : ℤ) → old ≤ℤ joined old new
  pub joined_new : (old new : ℤ) → new ≤ℤ joined old new
  pub joined_is : (old new d : ℤ) → old ≤ℤ d → new ≤ℤ d → joined old new ≤ℤ d
  pub widened_old : (ns : List ℤ) (top old new : ℤ) → new ≤ℤ top
      → old ≤ℤ widened ns top old new
  pub widened_new : (ns : List ℤ) (top old new : ℤ) → new ≤ℤ top
      → new ≤ℤ widened ns top old new
  pub fewer : (ns : List ℤ) (top old new : ℤ) → old <ℤ top → old <ℤ new → new ≤ℤ top
      → steps ns top (widened ns top old new) < steps ns top old
  pub few : (ns : List ℤ) (top d : ℤ) → steps ns top d ≤ length ns + 1

pub widening_ends : WideningEnds
widening_ends = record {
  joined_old = widening.joined_old;
  joined_new = widening.joined_new;
  joined_is = widening.joined_is;
  widened_old = widening.widened_old;
  widened_new = widening.widened_new;
  fewer = widening.fewer;
  few = widening.few;
}
