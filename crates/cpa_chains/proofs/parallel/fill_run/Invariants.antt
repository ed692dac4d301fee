use Rattle.cpa_chains.proofs.Halving.{IsFilled}
use Rattle.cpa_chains.proofs.parallel.fill_run.Given as goal

abbrev pub invariant-loop-i : goal.invariant-loop-i
invariant-loop-i l = IsFilled l.table l.lines l.rooms l.i
