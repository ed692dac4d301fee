-- The precisions so far are equal.
use Rattle.std.proofs.Common.{◌≡◌, take}
use Rattle.cpa_engine_turn.proofs.taking.copy_precisions.Given as goal

abbrev pub invariant-loop-precision : goal.invariant-loop-precision
invariant-loop-precision l = l.list.items ≡ take l.precision-index l.precisions
