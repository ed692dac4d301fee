-- The cells so far have a number of these or keep their own.
use Rattle.std.proofs.Common.{◌≡◌}
use Rattle.cpa_interval_acts.specs.Acts.{joined_from}
use Rattle.cpa_interval_acts.proofs.acts.join_from.Given as goal

abbrev pub invariant-loop-i : goal.invariant-loop-i
invariant-loop-i l =
    (l.all.cells ≡ l.fn.all.cells)
    × (l.all.each ≡ joined_from l.first l.i l.value l.fn.all.each)
