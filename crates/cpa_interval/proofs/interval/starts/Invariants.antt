-- The facts so far, with those of what is left.
use Rattle.std.proofs.Common.{◌≡◌, ◌++◌, true, drop}
use Rattle.std.specs.Prelude.{map}
use Rattle.cpa_model.specs.declared.program.Cell.{Cell}
use Rattle.cpa_interval_bounds.specs.Bounds.{only}
use Rattle.cpa_interval.specs.Cells.{facts_from}
use Rattle.cpa_interval.proofs.interval.starts.Given as goal

abbrev pub invariant-loop-place : goal.invariant-loop-place
invariant-loop-place l =
    l.facts ++ facts_from (λ _. true) l.place (drop l.place l.cells)
    (map (λ (cell : Cell). only cell.start) (drop l.place l.cells))
    ≡ facts_from (λ _. true) 0 l.cells (map (λ (cell : Cell). only cell.start) l.cells)
