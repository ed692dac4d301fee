-- What is known and the facts that are left give what all facts give.
use Rattle.std.proofs.Common.{length}
use Rattle.cpa_value.proofs.CellLemmas.{Knows}
use Rattle.cpa_value.proofs.cells.know_all.Given as goal

abbrev pub invariant-loop-fact : goal.invariant-loop-fact
invariant-loop-fact l = Knows (length l.fn.cells) l.facts l.fact-iterator l.cells
