-- The facts so far are those of the cells so far.
use Rattle.std.proofs.Common.{◌≡◌, take}
use Rattle.std.specs.Prelude.{true}
use Rattle.cpa_value.specs.Cells.{facts_from}
use Rattle.cpa_value.proofs.cells.elem_of_known.Given as goal

abbrev pub invariant-loop-cell : goal.invariant-loop-cell
invariant-loop-cell l = l.facts ≡ facts_from (λ _. true) 0 (take l.cell l.cells)
