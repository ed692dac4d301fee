use Rattle.std.proofs.Common.{take}
use Rattle.cpa_cnf.specs.Lines.{AreBelow}
use Rattle.cases_queries.proofs.formulas.is_below.Given as goal

abbrev pub invariant-loop-literal : goal.invariant-loop-literal
invariant-loop-literal l = AreBelow l.vars (take l.literal-index l.literal-items)
