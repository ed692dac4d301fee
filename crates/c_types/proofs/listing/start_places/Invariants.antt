use Rattle.std.proofs.Common.{◌≡◌, ◌++◌, drop}
use Rattle.c_types.specs.Starts.{start_names}
use Rattle.c_types.proofs.listing.start_places.Given as goal

abbrev pub invariant-loop-start : goal.invariant-loop-start
invariant-loop-start l =
    l.places ++ start_names (drop l.start-index l.starts) ≡ start_names l.starts
