use Rattle.std.proofs.Common.{take}
use Rattle.cpa_reached.specs.Indexes.{AreKeysOf}
use Rattle.cpa_reached.proofs.pruning.keys_of.Given as goal

abbrev pub invariant-loop-number : goal.invariant-loop-number
invariant-loop-number l =
    AreKeysOf l.places l.entries (take l.number-index l.gone) l.keys.items
