-- The bounds so far are changed.
use Rattle.std.proofs.Common.{◌+◌, ◌*◌, length}
use Rattle.cpa_zone_bounds.specs.lemmas.Changing.{IsChanged}
use Rattle.cpa_zone_bounds.proofs.changes.change_all.Given as goal

abbrev pub invariant-loop-i : goal.invariant-loop-i
invariant-loop-i l =
    IsChanged l.ranges l.change l.fn.most l.most (l.i * length l.ranges)

abbrev pub invariant-loop-j : goal.invariant-loop-j
invariant-loop-j l =
    IsChanged l.ranges l.change l.fn.most l.most (l.i * length l.ranges + l.j)
