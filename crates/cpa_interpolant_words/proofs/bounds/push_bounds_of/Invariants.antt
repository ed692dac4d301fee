-- The place is one of the numbers.
use Rattle.std.proofs.Common.{◌≤◌, length}
use Rattle.cpa_interpolant_words.proofs.bounds.push_bounds_of.Given as goal

abbrev pub invariant-loop-place : goal.invariant-loop-place
invariant-loop-place l = l.place ≤ length l.numbers

abbrev pub decreases-loop-place : goal.decreases-loop-place
decreases-loop-place l = l.place
