use Rattle.std.proofs.Common.{◌≡◌, map, take}
use Rattle.cpa_blast.specs.declared.places.Place.{Place}
use Rattle.cpa_blast.proofs.places.firsts_of.Given as goal

abbrev pub invariant-loop-place : goal.invariant-loop-place
invariant-loop-place l =
    l.firsts ≡ map (λ (p : Place). p.first) (take l.place-index l.places)
