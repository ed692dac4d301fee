-- Tables that give each statement of a program its place in the control flow (this project's own).
use Rattle.std.specs.Prelude.{◌≡◌, ℕ, ◌<◌, List, length, slice_get, Option, Some, None, ◌⊎◌, IfSome}
use Rattle.std.specs.Prelude.{IsSomeAnd, if◌then◌else◌}
use Rattle.cpa_model.specs.declared.program.Stmt.{Stmt}
use Rattle.cpa_model.specs.declared.program.Program.{Program}
use Rattle.cpa_model.specs.declared.program.Successor.{Successor}
use Rattle.cpa_model.specs.declared.program.Successor.TheVariants.{GoesTo, AfterWhole}
use Rattle.cpa_model.specs.Programs.{Next, InLoop, InFunction, IsBody, IsPart, is_loop}
use Rattle.cfa_build.specs.declared.places.Place.{Place}

-- what follows the statement n, its nearest loop and its function
pub record IsPlace (P : Program) (n : ℕ) (place : Place) : Type 0 where
  pub next : Next P n place.next
  pub inner : IfSome place.inner_loop (λ l. InLoop P l n)
  pub outer : place.inner_loop ≡ None → (l : ℕ) → InLoop P l n → ⊥
  pub function : InFunction P place.function n

-- the table gives each statement its place
pub record ArePlaces (P : Program) (places : List Place) : Type 0 where
  pub each : length places ≡ length P.stmts
  pub right : (n : ℕ) → n < length P.stmts → IsSomeAnd (slice_get places n) (IsPlace P n)

-- the statement is a body, or a part of a statement below i
abbrev pub IsKnown : Program → ℕ → ℕ → Type 0
IsKnown P i n = ((f : ℕ) × IsBody P f n) ⊎ ((b : ℕ) × (b < i) × IsPart P b n)

-- the table gives the bodies and the parts of the statements below i their places
pub record ArePlacesBelow (P : Program) (i : ℕ) (places : List Place) : Type 0 where
  pub each : length places ≡ length P.stmts
  pub right : (n : ℕ) → IsKnown P i n → IsSomeAnd (slice_get places n) (IsPlace P n)

-- the point that a part's successor names, next being what follows the whole
abbrev pub point_of : ℕ → Successor → ℕ
point_of next (GoesTo m) = m
point_of next AfterWhole = next

-- the place of a part with this successor
abbrev pub place_at : Place → Successor → Place
place_at place s = record place { next = point_of place.next s }

-- the place inside the statement s of number n: in a loop that loop is the nearest one
abbrev pub within : ℕ → Stmt → Place → Place
within n s whole = record whole { inner_loop = if is_loop s then Some n else whole.inner_loop }

-- new is old with the place of each part that has a successor
pub record PartsPlaced (after : ℕ → Option Successor) (place : Place) (old new : List Place)
    : Type 0 where
  pub parts : (c : ℕ) (s : Successor) → after c ≡ Some s → slice_get new c ≡ Some (place_at place s)
  pub others : (c : ℕ) → after c ≡ None → slice_get new c ≡ slice_get old c
