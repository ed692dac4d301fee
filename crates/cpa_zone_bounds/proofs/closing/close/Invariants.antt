-- The ways through the rows so far are open.
use Rattle.std.proofs.Common.{◌≡◌, ◌*◌, length}
use Rattle.std.specs.Prelude.{Some}
use Rattle.std.specs.List.{All}
use Rattle.cpa_zone_bounds.specs.Distances.{IsKept, AreOwn}
use Rattle.cpa_zone_bounds.specs.Closures.{closed_through}
use Rattle.cpa_zone_bounds.proofs.closing.close.Given as goal

abbrev pub invariant-loop-k : goal.invariant-loop-k
invariant-loop-k l =
    (length l.most ≡ l.rows * l.rows) × All IsKept l.most × AreOwn l.rows l.most
    × (closed_through l.rows l.k l.fn.most ≡ Some l.most)
