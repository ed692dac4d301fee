use Rattle.std.specs.Slice.Iter.{iter_rest}
use Rattle.cpa_sat_search.proofs.Loading.{IsLoading}
use Rattle.cpa_sat_search.proofs.start.load.Given as goal

abbrev pub invariant-loop-clause : goal.invariant-loop-clause
invariant-loop-clause l = IsLoading l.cnf (iter_rest l.clause-iterator) l.arena
