-- The measure of a search (this project's own): the trail as a number in base 3, the first place
-- the most significant, 1 at a decision and 2 at a literal that was forced.
use Rattle.std.specs.Prelude.{◌≡◌, ◌≢◌, ℕ, zero, suc, ◌==◌, ◌+◌, ◌*◌, ◌^◌, ◌<◌, ◌≤◌, true, List, []}
use Rattle.std.specs.Prelude.{◌∷◌, if◌then◌else◌}
use Rattle.cpa_cnf.specs.Literals.{opposite}
use Rattle.cpa_cnf.specs.Clauses.{has}
use Rattle.cpa_sat_trail.specs.declared.assertion.Jump.{Jump}
use Rattle.cpa_sat_trail.specs.declared.trail.Trail.{Trail}
use Rattle.cpa_sat_arena.specs.declared.literal.TheConstants.{NO_CLAUSE}
use Rattle.cpa_sat_trail.specs.Trails.{IsTrail, IsJustified, height, lit_at, reason_at, place_of}
use Rattle.cpa_sat_trail.specs.Trails.{AreClauses}

abbrev pub weight : ℕ → List ℕ → ℕ
weight zero rs = 0
weight (suc n) [] = 0
weight (suc n) (r ∷ rs) = (if r == NO_CLAUSE then 1 else 2) * 3 ^ n + weight n rs

abbrev pub progress : Trail → ℕ
progress t = weight t.vars t.reasons.items

-- a trail that the clauses justify
pub record IsSound (clauses : List (List ℕ)) (t : Trail) : Type 0 where
  pub trail : IsTrail t
  pub clauses_are : AreClauses t.vars clauses
  pub justified : IsJustified clauses t

-- Once the trail is cut at a decision, the clause forces the opposite of the literal at the place
-- `at`.
pub record Asserts (clause : List ℕ) (t : Trail) (jump : Jump) : Type 0 where
  pub inside : jump.at < height t
  pub above : jump.cut ≤ jump.at
  pub decision : reason_at t jump.cut ≡ NO_CLAUSE
  pub in_it : has clause (opposite (lit_at t jump.at)) ≡ true
  pub others : (l : ℕ) → has clause l ≡ true → l ≢ opposite (lit_at t jump.at)
      → place_of t (opposite l) < jump.cut

-- the measure has not fallen
pub record IsRisen (t u : Trail) : Type 0 where
  pub vars : u.vars ≡ t.vars
  pub least : progress t ≤ progress u
