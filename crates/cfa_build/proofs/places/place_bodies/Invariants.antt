use Rattle.std.proofs.Common.{◌≡◌, ℕ, ◌<◌, IsSomeAnd, drop}
use Rattle.std.specs.List.{slice_get}
use Rattle.std.specs.Slice.Iter.{iter_rest}
use Rattle.cpa_model.specs.Programs.{IsBody}
use Rattle.cfa_build.specs.Places.{IsPlace}
use Rattle.cfa_build.proofs.places.place_bodies.Given as goal

abbrev pub invariant-loop-f : goal.invariant-loop-f
invariant-loop-f l =
    (iter_rest l.body-iterator ≡ drop l.f l.program.bodies)
    × ((g n : ℕ) → g < l.f → IsBody l.program g n
    → IsSomeAnd (slice_get l.places n) (IsPlace l.program n))
