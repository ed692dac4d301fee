-- No way from the rows so far and back is shorter than none.
use Rattle.std.proofs.Common.{◌≡◌, true}
use Rattle.cpa_zone_bounds.specs.Closures.{come_back}
use Rattle.cpa_zone_bounds.proofs.closing.come_back.Given as goal

abbrev pub invariant-loop-i : goal.invariant-loop-i
invariant-loop-i l = come_back l.rows l.k l.most l.i ≡ true
