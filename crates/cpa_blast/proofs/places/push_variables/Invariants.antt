use Rattle.std.proofs.Common.{◌≡◌, ◌+◌, ◌-◌, ◌++◌}
use Rattle.cpa_blast.specs.Formulas.{variables_from}
use Rattle.cpa_blast.proofs.places.push_variables.Given as goal

abbrev pub invariant-loop-i : goal.invariant-loop-i
invariant-loop-i l =
    l.word ++ variables_from (l.first + l.i) (l.count - l.i)
    ≡ l.initial.word ++ variables_from l.first l.count
