use Rattle.std.proofs.Common.{◌≡◌, map, take}
use Rattle.cpa_reached.specs.Kept.{renamed_among}
use Rattle.cpa_reached.proofs.renaming.rename_among.Given as goal

abbrev pub invariant-loop-namer : goal.invariant-loop-namer
invariant-loop-namer l =
    l.entries.items ≡ map (renamed_among (take l.namer-index l.namers) l.old l.next)
    l.initial.entries.items
