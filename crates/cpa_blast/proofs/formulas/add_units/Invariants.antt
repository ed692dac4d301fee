use Rattle.std.proofs.Common.{◌≡◌, ◌++◌, take}
use Rattle.cpa_blast.specs.Formulas.{units}
use Rattle.cpa_blast.proofs.formulas.add_units.Given as goal

abbrev pub invariant-loop-literal : goal.invariant-loop-literal
invariant-loop-literal l =
    l.clauses ≡ l.initial.clauses ++ units (take l.literal-index l.literals)
