-- The trail of a search (Marques-Silva and Sakallah 1996; Eén and Sörensson 2003) and what
-- justifies it.
use Rattle.std.specs.Prelude.{◌≡◌, ◌≢◌, ℕ, ◌<◌, ◌≤◌, ◌*◌, ◌^◌, true, List, [], length}
use Rattle.std.specs.Prelude.{slice_index, slice_index_or}
use Rattle.cpa_cnf.specs.Literals.{opposite}
use Rattle.cpa_cnf.specs.Clauses.{has, IsClause}
use Rattle.cpa_cnf.specs.Lines.{AreBelow}
use Rattle.cpa_sat_trail.specs.declared.trail.Trail.{Trail}
use Rattle.cpa_sat_arena.specs.declared.literal.TheConstants.{NO_CLAUSE}
use Rattle.cpa_sat_trail.specs.declared.trail.TheConstants.{NO_PLACE}

abbrev pub height : Trail → ℕ
height t = length t.lits.items

abbrev pub lit_at : Trail → ℕ → ℕ
lit_at t i = slice_index t.lits.items i

abbrev pub reason_at : Trail → ℕ → ℕ
reason_at t i = slice_index t.reasons.items i

-- the literal's place, NO_PLACE where it is not true
abbrev pub place_of : Trail → ℕ → ℕ
place_of t l = slice_index t.places.items l

-- Each literal on the trail stands at its place, each place names its literal, and no literal and
-- its opposite are both true.
pub record IsTrail (t : Trail) : Type 0 where
  pub small : t.vars < 2 ^ 31
  pub long : length t.places.items ≡ 2 * t.vars
  pub short : height t ≤ t.vars
  pub paired : length t.reasons.items ≡ height t
  pub below : (i : ℕ) → i < height t → lit_at t i < 2 * t.vars
  pub stands : (i : ℕ) → i < height t → place_of t (lit_at t i) ≡ i
  pub inside : (l : ℕ) → l < 2 * t.vars → place_of t l ≢ NO_PLACE → place_of t l < height t
  pub back : (l : ℕ) → l < 2 * t.vars → place_of t l ≢ NO_PLACE → lit_at t (place_of t l) ≡ l
  pub one : (l : ℕ) → l < 2 * t.vars → place_of t l ≢ NO_PLACE → place_of t (opposite l) ≡ NO_PLACE

-- The clause forces the literal at place i: it has the literal, and its others are false before
-- that place.
pub record IsReasonFor (clause : List ℕ) (t : Trail) (i : ℕ) : Type 0 where
  pub in_it : has clause (lit_at t i) ≡ true
  pub others : (l : ℕ) → has clause l ≡ true → l ≢ lit_at t i → place_of t (opposite l) < i

-- each literal that is no decision is forced by a clause
abbrev pub IsJustified : List (List ℕ) → Trail → Type 0
IsJustified clauses t =
    (i : ℕ) → i < height t → reason_at t i ≢ NO_CLAUSE
    → (reason_at t i < length clauses) × IsReasonFor (slice_index_or clauses (reason_at t i) []) t i

-- each literal of the clause is false
abbrev pub IsFalse : List ℕ → Trail → Type 0
IsFalse clause t = (l : ℕ) → has clause l ≡ true → place_of t (opposite l) ≢ NO_PLACE

-- clauses over the variables below `vars`
pub record AreClauses (vars : ℕ) (clauses : List (List ℕ)) : Type 0 where
  pub sorted : (k : ℕ) → IsClause (slice_index_or clauses k [])
  pub below : (k : ℕ) → AreBelow vars (slice_index_or clauses k [])
