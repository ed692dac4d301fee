-- What a hash is fed of a spot (this project's own): the point and the stack, as far as they are
-- said.
use Rattle.std.specs.Prelude.{ℕ, List, [], ◌++◌, Option, Some, None}
use Rattle.std.specs.Hash as fed
use Rattle.cpa_recheck_obligations.specs.declared.spots.Spot.{Spot}

abbrev pub point_writes : Option ℕ → List (List ℕ)
point_writes None = []
point_writes (Some p) = fed.u32 p

abbrev pub stack_writes : Option (List ℕ) → List (List ℕ)
stack_writes None = []
stack_writes (Some sites) = fed.slice fed.u32 sites

abbrev pub spot_writes : Spot → List (List ℕ)
spot_writes s = point_writes s.point ++ stack_writes s.stack
