use Rattle.cpa_model.specs.Steps.{IsError}
use Rattle.cfa_build.specs.Edges.{AreNumbersBelow}
use Rattle.cfa_build.proofs.errors.errors.Given as goal

abbrev pub invariant-loop-n : goal.invariant-loop-n
invariant-loop-n l = AreNumbersBelow (IsError l.program) l.n l.errors
