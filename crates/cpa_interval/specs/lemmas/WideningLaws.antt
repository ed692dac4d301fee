-- What widening does, and why it ends. The lemma below the record is its proof, which those of
-- merging cite.
use Rattle.std.specs.Prelude.{◌≡◌, ◌+◌, ◌*◌, ◌<◌, ◌≤◌, ℤ, ◌≤ℤ◌, List, length, false}
use Rattle.cpa_ints.specs.declared.integers.IntType.{IntType}
use Rattle.cpa_interval_bounds.specs.declared.bounds.Bounds.{Bounds}
use Rattle.cpa_interval_bounds.specs.Bounds.{IsOf, is_inside}
use Rattle.cpa_interval.specs.Widening.{widened}
use Rattle.cpa_interval.specs.Steps.{distinct, steps}
use Rattle.cpa_interval.specs.lemmas.Falls as falls

-- the widened bounds have the numbers of both and are of the type; they have no more steps left
-- than the old ones, and fewer where the new ones have a number that the old ones lack; and no
-- bounds have more steps than two for each number and for each end of the type
pub record WideningEnds : Type 0 where
  pub of_type : (ns : List ℤ) (t : IntType) (old new : Bounds) → IsOf t old → IsOf t new
      → IsOf t (widened ns t old new)
  pub low_old : (ns : List ℤ) (t : IntType) (old new : Bounds) → IsOf t new
      → (widened ns t old new).lo ≤ℤ old.lo
  pub high_old : (ns : List ℤ) (t : IntType) (old new : Bounds) → IsOf t new
      → old.hi ≤ℤ (widened ns t old new).hi
  pub low_new : (ns : List ℤ) (t : IntType) (old new : Bounds) → IsOf t new
      → (widened ns t old new).lo ≤ℤ new.lo
  pub high_new : (ns : List ℤ) (t : IntType) (old new : Bounds) → IsOf t new
      → new.hi ≤ℤ (widened ns t old new).hi
  pub no_more : (ns : List ℤ) (t : IntType) (old new : Bounds) → IsOf t new
      → steps (distinct ns) t (widened ns t old new) ≤ steps (distinct ns) t old
  pub fewer : (ns : List ℤ) (t : IntType) (old new : Bounds) → IsOf t new
      → is_inside new old ≡ false
      → steps (distinct ns) t (widened ns t old new) < steps (distinct ns) t old
  pub few : (ns : List ℤ) (t : IntType) (b : Bounds) → steps ns t b ≤ 2 * (length ns + 1)

pub widening_ends : WideningEnds
widening_ends = record {
  of_type = falls.widened-is;
  low_old = falls.low_old;
  high_old = falls.high_old;
  low_new = falls.low_new;
  high_new = falls.high_new;
  no_more = falls.no_more;
  fewer = falls.fewer;
  few = falls.few;
}
