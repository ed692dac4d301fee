-- All clauses are below the number where those that are left are.
use Rattle.std.specs.List.{AllByRecursion}
use Rattle.std.specs.Slice.Iter.{iter_rest}
use Rattle.cpa_cnf.specs.Lines.{AreBelow}
use Rattle.cases_queries.proofs.formulas.are_below.Given as goal

abbrev pub invariant-loop-clause : goal.invariant-loop-clause
invariant-loop-clause l =
    AllByRecursion (AreBelow l.cnf.vars) (iter_rest l.clause-iterator)
    → AllByRecursion (AreBelow l.cnf.vars) l.cnf.clauses
