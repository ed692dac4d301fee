use Rattle.std.proofs.Common.{◌≡◌, ◌++◌, drop}
use Rattle.cpa_blast.specs.Formulas.{store_at}
use Rattle.cpa_solver.proofs.stores.store_at.Given as goal

abbrev pub invariant-loop-i : goal.invariant-loop-i
invariant-loop-i l =
    l.values ++ store_at (drop l.i l.cells) (drop l.i l.firsts) l.truths
    ≡ store_at l.cells l.firsts l.truths
