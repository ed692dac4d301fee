use Rattle.std.specs.Slice.Iter.{iter_rest}
use Rattle.cpa_cnf.specs.Lines.{known}
use Rattle.cpa_cnf.proofs.Following.{AreCleared, AreLast}
use Rattle.cpa_cnf.proofs.checking.clear_touched.Given as goal

abbrev pub invariant-loop-step : goal.invariant-loop-step
invariant-loop-step l =
    let cs = known l.cnf l.earlier in
    let steps = iter_rest l.step-iterator in
    AreLast l.cnf.vars cs l.line steps × AreCleared cs l.line steps l.fn.table l.table
