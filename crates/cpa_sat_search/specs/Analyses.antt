-- The analysis of a conflict (Marques-Silva and Sakallah 1996): a chain of resolutions whose
-- present clause is the marked literals.
use Rattle.std.specs.Prelude.{◌≡◌, ◌≢◌, ◌⊎◌, ℕ, ◌<◌, ◌≤◌, ◌*◌, true, List, [], length}
use Rattle.std.specs.Prelude.{slice_index_or, Option, Some, None}
use Rattle.std.specs.List.{AllByRecursion}
use Rattle.cpa_cnf.specs.declared.formula.Step.{Step}
use Rattle.cpa_cnf.specs.Literals.{opposite}
use Rattle.cpa_cnf.specs.Clauses.{has}
use Rattle.cpa_cnf.specs.Resolution.{in_union_without}
use Rattle.cpa_cnf.specs.Lines.{Gives}
use Rattle.cpa_cnf.specs.Marking.{marked, IsBlank, IsMarkedAs}
use Rattle.cpa_sat_search.specs.declared.analysis.Analysis.{Analysis}
use Rattle.cpa_sat_trail.specs.declared.assertion.Jump.{Jump}
use Rattle.cpa_sat_trail.specs.declared.trail.Trail.{Trail}
use Rattle.cpa_sat_arena.specs.declared.literal.TheConstants.{NO_CLAUSE}
use Rattle.cpa_sat_trail.specs.Trails.{IsTrail, IsJustified, height, lit_at, reason_at, place_of}
use Rattle.cpa_sat_trail.specs.Trails.{AreClauses}

-- no chain is under way
pub record IsIdle (a : Analysis) : Type 0 where
  pub long : length a.marks.items ≡ 2 * a.vars
  pub blank : IsBlank a.marks.items

-- every marked literal is among those that were touched
abbrev pub AreNoted : Analysis → Type 0
AreNoted a = (l : ℕ) → marked a.marks.items l ≡ true → has a.touched.items l ≡ true

-- The chain so far gives the clause of the marked literals.
pub record IsDerived (clauses : List (List ℕ)) (a : Analysis) : Type 0 where
  pub long : length a.marks.items ≡ 2 * a.vars
  pub first : a.first < length clauses
  pub numbers : AllByRecursion (λ (step : Step). step.clause < length clauses) a.steps.items
  pub pivots : AllByRecursion (λ (step : Step). step.pivot < a.vars) a.steps.items
  pub chain : (c : List ℕ) × IsMarkedAs a.marks.items c
      × Gives clauses (slice_index_or clauses a.first []) a.steps.items c
  pub noted : AreNoted a

-- each marked literal is false, and became so before the place
abbrev pub AreFalseBefore : Analysis → Trail → ℕ → Type 0
AreFalseBefore a t place = (l : ℕ) → marked a.marks.items l ≡ true → place_of t (opposite l) < place

-- Once the trail is cut at the decision `cut`, the clause of the marked literals forces the
-- opposite of the literal at the place `at`: its others are false before the cut.
pub record IsAsserting (a : Analysis) (t : Trail) (jump : Jump) : Type 0 where
  pub inside : jump.at < height t
  pub above : jump.cut ≤ jump.at
  pub decision : reason_at t jump.cut ≡ NO_CLAUSE
  pub in_it : marked a.marks.items (opposite (lit_at t jump.at)) ≡ true
  pub others : (l : ℕ) → marked a.marks.items l ≡ true → l ≢ opposite (lit_at t jump.at)
      → place_of t (opposite l) < jump.cut

-- the chain is as before, and the table as long
pub record IsAsBefore (a b : Analysis) : Type 0 where
  pub vars : b.vars ≡ a.vars
  pub long : length b.marks.items ≡ length a.marks.items
  pub first : b.first ≡ a.first
  pub steps : b.steps.items ≡ a.steps.items

-- the marked literals are the clause's
abbrev pub HasMarksOf : List ℕ → Analysis → Type 0
HasMarksOf clause a = (l : ℕ) → marked a.marks.items l ≡ has clause l

-- the marked literals are those of the union with a clause, once these gave up the literal and that
-- its opposite
abbrev pub HasUnion : Analysis → List ℕ → ℕ → Analysis → Type 0
HasUnion a clause literal b =
    (l : ℕ) → marked b.marks.items l
    ≡ in_union_without (marked a.marks.items) (has clause) literal l

-- an analysis under way over these clauses and this trail
pub record IsAnalysing (clauses : List (List ℕ)) (t : Trail) (a : Analysis) : Type 0 where
  pub trail : IsTrail t
  pub vars : t.vars ≡ a.vars
  pub clauses_are : AreClauses a.vars clauses
  pub justified : IsJustified clauses t
  pub derived : IsDerived clauses a

-- The literal at the place has given way to literals that became false before it; the others stay.
pub record GivesWay (a : Analysis) (t : Trail) (place : ℕ) (b : Analysis) : Type 0 where
  pub stays : (l : ℕ) → marked a.marks.items l ≡ true → l ≢ opposite (lit_at t place)
      → marked b.marks.items l ≡ true
  pub comes : (l : ℕ) → marked b.marks.items l ≡ true
      → (marked a.marks.items l ≡ true × (l ≢ opposite (lit_at t place)))
      ⊎ (place_of t (opposite l) < place)

-- every marked literal but one is false before the place
abbrev pub AreOthersBefore : Analysis → Trail → ℕ → ℕ → Type 0
AreOthersBefore a t kept place =
    (l : ℕ) → marked a.marks.items l ≡ true → l ≢ kept → place_of t (opposite l) < place

-- a decision at or below the place `at`, behind all other marked literals
pub record IsCut (a : Analysis) (t : Trail) (at cut : ℕ) : Type 0 where
  pub above : cut ≤ at
  pub decision : reason_at t cut ≡ NO_CLAUSE
  pub others : AreOthersBefore a t (opposite (lit_at t at)) cut

-- The chain may stop with this jump, or else all marked literals are false before the place.
abbrev pub IsStepped : Trail → ℕ → Analysis → Option Jump → Type 0
IsStepped t place a None = AreFalseBefore a t place
IsStepped t place a (Some jump) = IsAsserting a t jump × AreFalseBefore a t (height t)

-- how an analysis ends: with a jump, or with the empty clause
abbrev pub IsConcluded : Trail → Analysis → Option Jump → Type 0
IsConcluded t a None = IsBlank a.marks.items
IsConcluded t a (Some jump) = IsAsserting a t jump

-- the literal that became false at the place can be resolved away, and the jump stays
pub record IsReducible (a : Analysis) (t : Trail) (jump : Jump) (place : ℕ) : Type 0 where
  pub inside : place < height t
  pub forced : reason_at t place ≢ NO_CLAUSE
  pub here : marked a.marks.items (opposite (lit_at t place)) ≡ true
  pub apart : opposite (lit_at t place) ≢ opposite (lit_at t jump.at)
  pub below : place < jump.cut
