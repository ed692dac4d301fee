-- The cells from this place on have their starts.
use Rattle.std.specs.Prelude.{map}
use Rattle.cpa_model.specs.declared.program.Cell.{Cell}
use Rattle.cpa_interval_bounds.specs.Bounds.{only}
use Rattle.cpa_recheck_bounds.proofs.Tables.{IsFilledFrom}
use Rattle.cpa_recheck_bounds.proofs.behind.bounds_at_start.Given as goal

abbrev pub invariant-loop-place : goal.invariant-loop-place
invariant-loop-place l =
    IsFilledFrom l.place (map (λ (cell : Cell). only cell.start) l.cells) l.all.each

abbrev pub decreases-loop-place : goal.decreases-loop-place
decreases-loop-place l = l.place
