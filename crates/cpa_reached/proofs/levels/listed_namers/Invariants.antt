use Rattle.std.proofs.Common.{drop}
use Rattle.cpa_reached.proofs.Lowering.{Lists}
use Rattle.cpa_reached.proofs.levels.listed_namers.Given as goal

abbrev pub invariant-loop-number : goal.invariant-loop-number
invariant-loop-number l =
    Lists l.links l.numbers l.namers.items (drop l.number-index l.numbers)
