use Rattle.std.proofs.Common.{◌≡◌, map, drop}
use Rattle.cpa_config.specs.Values.{has_repeats}
use Rattle.cpa_config.proofs.listing.has_repeats.Given as goal

abbrev pub invariant-loop-place : goal.invariant-loop-place
invariant-loop-place l =
    has_repeats (map (λ name. name.now) (drop l.place l.names))
    ≡ has_repeats (map (λ name. name.now) l.names)
