-- The place lies between the two, which come nearer.
use Rattle.std.proofs.Common.{◌≡◌, ℕ, ◌≤◌, ◌-◌, length}
use Rattle.std.specs.Prelude.{true}
use Rattle.cpa_value_changes.specs.Tables.{are_ordered, place_in}
use Rattle.cpa_value_changes.proofs.table.place_of.Given as goal

abbrev pub invariant-loop-low : goal.invariant-loop-low
invariant-loop-low l = (l.high ≤ length l.facts) × ((n : ℕ) → are_ordered n 0 l.facts ≡ true
    → (l.low ≤ place_in l.cell l.facts) × (place_in l.cell l.facts ≤ l.high))

abbrev pub decreases-loop-low : goal.decreases-loop-low
decreases-loop-low l = l.high - l.low
