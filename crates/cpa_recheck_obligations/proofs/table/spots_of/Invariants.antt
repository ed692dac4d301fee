use Rattle.std.proofs.Common.{◌≡◌, take}
use Rattle.cpa_recheck_obligations.specs.Spots.{spots_of}
use Rattle.cpa_recheck_obligations.proofs.table.spots_of.Given as goal

abbrev pub invariant-loop-entry : goal.invariant-loop-entry
invariant-loop-entry l = l.spots.items ≡ spots_of (take l.entry-index l.entries)
