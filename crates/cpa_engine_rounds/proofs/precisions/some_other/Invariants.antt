use Rattle.std.proofs.Common.{take}
use Rattle.cpa_engine_rounds.specs.Precisions.{HaveAll}
use Rattle.cpa_engine_rounds.proofs.precisions.some_other.Given as goal

abbrev pub invariant-loop-entry : goal.invariant-loop-entry
invariant-loop-entry l = HaveAll l.precisions (take l.entry-index l.entries)
