-- The place is one of the path.
use Rattle.std.proofs.Common.{◌≤◌, length}
use Rattle.cpa_interpolant_words.proofs.choosing.choose.Given as goal

abbrev pub invariant-loop-place : goal.invariant-loop-place
invariant-loop-place l = l.place ≤ length l.edges

abbrev pub decreases-loop-place : goal.decreases-loop-place
decreases-loop-place l = l.place
