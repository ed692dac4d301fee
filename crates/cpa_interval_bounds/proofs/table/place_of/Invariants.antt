-- The place lies from the one to the other.
use Rattle.std.proofs.Common.{ℕ, ◌≤◌, ◌-◌, List, length}
use Rattle.cpa_interval_bounds.specs.declared.table.CellBounds.{CellBounds}
use Rattle.cpa_interval_bounds.specs.Tables.{place_in}
use Rattle.cpa_interval_bounds.proofs.table.place_of.Given as goal

pub record LiesBetween (cell low high : ℕ) (known : List CellBounds) : Type 0 where
  pub from : low ≤ place_in cell known
  pub to : place_in cell known ≤ high
  pub within : high ≤ length known

abbrev pub invariant-loop-low : goal.invariant-loop-low
invariant-loop-low l = LiesBetween l.cell l.low l.high l.known

abbrev pub decreases-loop-low : goal.decreases-loop-low
decreases-loop-low l = l.high - l.low
