-- The last look at all clauses, and the values of a model (this project's own).
use Rattle.std.specs.Prelude.{◌≡◌, ◌≢◌, ◌↔◌, ℕ, ◌<◌, ◌*◌, true, Bool, List, [], length}
use Rattle.std.specs.Prelude.{slice_index_or, IsTrue}
use Rattle.cpa_cnf.specs.Literals.{opposite}
use Rattle.cpa_cnf.specs.Clauses.{has}
use Rattle.cpa_sat_trail.specs.declared.trail.Trail.{Trail}
use Rattle.cpa_sat_trail.specs.declared.trail.TheConstants.{NO_PLACE}
use Rattle.cpa_sat_trail.specs.Trails.{place_of}

-- a literal of the clause is true
abbrev pub IsSatisfiedIn : Trail → List ℕ → Type 0
IsSatisfiedIn t clause = (l : ℕ) × (has clause l ≡ true) × (place_of t l ≢ NO_PLACE)

-- no literal of the clause is true
abbrev pub HasNoTrue : List ℕ → Trail → Type 0
HasNoTrue clause t = (l : ℕ) → has clause l ≡ true → place_of t l ≡ NO_PLACE

abbrev pub AreSatisfied : List (List ℕ) → Trail → Type 0
AreSatisfied clauses t = (k : ℕ) → k < length clauses
    → IsSatisfiedIn t (slice_index_or clauses k [])

abbrev pub IsUnsatisfied : List (List ℕ) → Trail → ℕ → Type 0
IsUnsatisfied clauses t number = (number < length clauses)
    × HasNoTrue (slice_index_or clauses number []) t

-- a literal in range without a value
pub record IsOpen (t : Trail) (literal : ℕ) : Type 0 where
  pub range : literal < 2 * t.vars
  pub not_true : place_of t literal ≡ NO_PLACE
  pub not_false : place_of t (opposite literal) ≡ NO_PLACE

-- the values of the first variables
pub record AreValues (t : Trail) (count : ℕ) (values : List Bool) : Type 0 where
  pub long : length values ≡ count
  pub each : (v : ℕ) → v < count → IsTrue (slice_index_or values v true)
      ↔ (place_of t (2 * v) ≢ NO_PLACE)
