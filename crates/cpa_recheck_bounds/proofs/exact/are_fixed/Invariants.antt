use Rattle.cpa_recheck_bounds.specs.Exact.{AreFixedBelow}
use Rattle.cpa_recheck_bounds.proofs.exact.are_fixed.Given as goal

abbrev pub invariant-loop-cell : goal.invariant-loop-cell
invariant-loop-cell l = AreFixedBelow l.e l.all.each l.cell
