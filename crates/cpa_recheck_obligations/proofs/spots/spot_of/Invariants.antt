use Rattle.std.proofs.Common.{◌≡◌}
use Rattle.cpa_recheck_obligations.specs.Spots.{spot_from, spot_of}
use Rattle.cpa_recheck_obligations.proofs.spots.spot_of.Given as goal

abbrev pub invariant-loop-fact : goal.invariant-loop-fact
invariant-loop-fact l = spot_from l.fact-iterator l.spot ≡ spot_of l.elem
