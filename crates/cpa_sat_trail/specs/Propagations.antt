-- What a look at a clause shows (this project's own).
use Rattle.std.specs.Prelude.{◌≡◌, ◌≢◌, ℕ, ◌<◌, ◌*◌, true, List, [], length, slice_index_or, Option}
use Rattle.std.specs.Prelude.{Some, None}
use Rattle.cpa_cnf.specs.Literals.{opposite}
use Rattle.cpa_cnf.specs.Clauses.{has}
use Rattle.cpa_sat_trail.specs.declared.propagation.After.{After}
use Rattle.cpa_sat_trail.specs.declared.propagation.After.TheVariants.{Stays, Moved, Stopped}
use Rattle.cpa_sat_trail.specs.declared.propagation.Seen.{Seen}
use Rattle.cpa_sat_trail.specs.declared.propagation.Seen.TheVariants.{Satisfied, Free, Forced}
use Rattle.cpa_sat_trail.specs.declared.propagation.Seen.TheVariants.{Conflict}
use Rattle.cpa_sat_trail.specs.declared.trail.Trail.{Trail}
use Rattle.cpa_sat_trail.specs.declared.trail.TheConstants.{NO_PLACE}
use Rattle.cpa_sat_trail.specs.Trails.{IsFalse, place_of}

-- each literal of the clause but one is false
abbrev pub IsFalseBut : ℕ → List ℕ → Trail → Type 0
IsFalseBut literal clause t = (l : ℕ) → has clause l ≡ true → l ≢ literal
    → place_of t (opposite l) ≢ NO_PLACE

-- the clause forces the literal, which has no value
pub record IsForced (clause : List ℕ) (t : Trail) (literal : ℕ) : Type 0 where
  pub in_it : has clause literal ≡ true
  pub others : IsFalseBut literal clause t
  pub range : literal < 2 * t.vars
  pub not_true : place_of t literal ≡ NO_PLACE
  pub not_false : place_of t (opposite literal) ≡ NO_PLACE

abbrev pub IsSeen : List ℕ → Trail → Seen → Type 0
IsSeen clause t Satisfied = Unit {0}
IsSeen clause t (Free literal) = Unit {0}
IsSeen clause t (Forced literal) = IsForced clause t literal
IsSeen clause t Conflict = IsFalse clause t

-- what a look at the clause of a number shows
abbrev pub IsVisited : List (List ℕ) → Trail → ℕ → Seen → Type 0
IsVisited clauses t number Satisfied = Unit {0}
IsVisited clauses t number (Free literal) = Unit {0}
IsVisited clauses t number (Forced literal) =
    (number < length clauses) × IsForced (slice_index_or clauses number []) t literal
IsVisited clauses t number Conflict =
    (number < length clauses) × IsFalse (slice_index_or clauses number []) t

-- a clause that is false, if one was found
abbrev pub IsPropagated : List (List ℕ) → Trail → Option ℕ → Type 0
IsPropagated clauses t None = Unit {0}
IsPropagated clauses t (Some number) =
    (number < length clauses) × IsFalse (slice_index_or clauses number []) t

-- the clause of the number is false, where a node's look says so
abbrev pub IsAwake : List (List ℕ) → Trail → ℕ → After → Type 0
IsAwake clauses t number Stays = Unit {0}
IsAwake clauses t number Moved = Unit {0}
IsAwake clauses t number Stopped = (number < length clauses)
    × IsFalse (slice_index_or clauses number []) t
