use Rattle.std.proofs.Common.{take}
use Rattle.cpa_recheck.specs.Stacks.{HasDepths}
use Rattle.cpa_recheck.proofs.stacks.longest.Given as goal

abbrev pub invariant-loop-found : goal.invariant-loop-found
invariant-loop-found l = HasDepths l.most (take l.found-index l.spots)
