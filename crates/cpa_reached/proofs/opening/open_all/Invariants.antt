use Rattle.std.proofs.Common.{◌≡◌, map, take}
use Rattle.cpa_reached.specs.Kept.{opened_among}
use Rattle.cpa_reached.proofs.opening.open_all.Given as goal

abbrev pub invariant-loop-number : goal.invariant-loop-number
invariant-loop-number l =
    l.entries.items ≡ map (opened_among (take l.number-index l.found)) l.initial.entries.items
