use Rattle.std.specs.Slice.Iter.{iter_rest}
use Rattle.cpa_cnf.specs.Lines.{known}
use Rattle.cpa_cnf.proofs.Following.{IsFollowed}
use Rattle.cpa_cnf.proofs.checking.follow.Given as goal

abbrev pub invariant-loop-step : goal.invariant-loop-step
invariant-loop-step l =
    IsFollowed l.cnf.vars (known l.cnf l.earlier) l.line (iter_rest l.step-iterator) l.table
