use Rattle.std.proofs.Common.{◌≡◌, take}
use Rattle.cpa_recheck_weights.specs.Weights.{weights_of}
use Rattle.cpa_recheck_weights.proofs.weighing.weights_of.Given as goal

abbrev pub invariant-loop-elem : goal.invariant-loop-elem
invariant-loop-elem l = l.weights.items ≡ weights_of l.cells (take l.elem-index l.elems)
