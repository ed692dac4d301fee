-- The bounds so far are those by way of row k.
use Rattle.std.proofs.Common.{◌+◌, ◌*◌}
use Rattle.cpa_zone_bounds.specs.lemmas.Fillings.{IsByWay}
use Rattle.cpa_zone_bounds.proofs.closing.pass_through.Given as goal

abbrev pub invariant-loop-i : goal.invariant-loop-i
invariant-loop-i l = IsByWay l.rows l.k l.fn.most l.most (l.i * l.rows)

abbrev pub invariant-loop-j : goal.invariant-loop-j
invariant-loop-j l = IsByWay l.rows l.k l.fn.most l.most (l.i * l.rows + l.j)
