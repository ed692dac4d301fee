-- Facts are in order where they end.
use Rattle.std.proofs.Common.{rules}
use Rattle.cpa_value_changes.proofs.OrderLemmas.{some_end}
use Rattle.cpa_value_changes.proofs.table.are_ordered.Goals as goal

pub returns-in-Slice : goal.returns-in-Slice
returns-in-Slice c = search (rules, some_end)
