use Rattle.std.proofs.Common.{take}
use Rattle.cpa_recheck_obligations.specs.Tables.{IsTableOf}
use Rattle.cpa_recheck_obligations.proofs.table.table_of.Given as goal

abbrev pub invariant-loop-number : goal.invariant-loop-number
invariant-loop-number l = IsTableOf (take l.number l.spots) l.numbers.entries
