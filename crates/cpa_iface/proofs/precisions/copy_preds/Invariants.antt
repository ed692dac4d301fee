use Rattle.std.proofs.Common.{◌≡◌, take}
use Rattle.cpa_iface.proofs.precisions.copy_preds.Given as goal

abbrev pub invariant-loop-pred : goal.invariant-loop-pred
invariant-loop-pred l = l.copies ≡ take l.pred-index l.preds
