-- The hull so far.
use Rattle.std.proofs.Common.{◌≡◌}
use Rattle.cpa_interval_bounds.specs.Elements.{hull_from}
use Rattle.cpa_interval_bounds.proofs.elements.hull_from.Given as goal

abbrev pub invariant-loop-i : goal.invariant-loop-i
invariant-loop-i l = l.whole ≡ hull_from l.cells.each l.first l.i
