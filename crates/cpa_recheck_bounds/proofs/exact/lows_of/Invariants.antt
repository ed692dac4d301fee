-- The lower ends so far, with those of what is left.
use Rattle.std.proofs.Common.{◌≡◌, ◌++◌, drop}
use Rattle.cpa_recheck_bounds.specs.Exact.{lows_of}
use Rattle.cpa_recheck_bounds.proofs.exact.lows_of.Given as goal

abbrev pub invariant-loop-place : goal.invariant-loop-place
invariant-loop-place l = l.values ++ drop l.place (lows_of l.all.each) ≡ lows_of l.all.each
