use Rattle.std.proofs.Common.{take}
use Rattle.cpa_reached.specs.Indexes.{IsIndex}
use Rattle.cpa_reached.proofs.index.index_of.Given as goal

abbrev pub invariant-loop-entry : goal.invariant-loop-entry
invariant-loop-entry l =
    IsIndex l.places (take l.entry-index l.entries) l.index.entries
