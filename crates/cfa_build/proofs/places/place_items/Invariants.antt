use Rattle.std.proofs.Common.{◌≡◌, drop}
use Rattle.cpa_model.specs.Programs.{first_of, after_item}
use Rattle.cfa_build.specs.Places.{PartsPlaced, place_at}
use Rattle.cfa_build.proofs.places.place_items.Given as goal

abbrev pub invariant-loop-i : goal.invariant-loop-i
invariant-loop-i l =
    (PartsPlaced (after_item (drop l.i l.items)) l.fn.whole l.initial.places l.places)
    × (l.place ≡ place_at l.fn.whole (first_of (drop l.i l.items)))
