use Rattle.std.proofs.Common.{◌≡◌, map, take}
use Rattle.cpa_recheck_obligations.specs.Forms.{entry_at}
use Rattle.cpa_recheck.proofs.asking.chosen.Given as goal

abbrev pub invariant-loop-number : goal.invariant-loop-number
invariant-loop-number l = l.found.items ≡ map (entry_at l.entries) (take l.number-index l.numbers)
