use Rattle.std.proofs.Common.{◌≡◌, ◌++◌, drop}
use Rattle.cpa_interpolant_names.specs.Meetings.{meetings_from}
use Rattle.cpa_interpolant_names.proofs.gathering.meetings.Given as goal

abbrev pub invariant-loop-i : goal.invariant-loop-i
invariant-loop-i l =
    l.found.items ++ meetings_from l.form l.before l.behind l.i (drop l.i l.cells)
    ≡ meetings_from l.form l.before l.behind 0 l.cells
