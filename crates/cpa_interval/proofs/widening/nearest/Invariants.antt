-- What is left gives what the whole gives.
use Rattle.std.proofs.Common.{◌≡◌, drop}
use Rattle.cpa_interval_bounds.specs.Bounds.{bounds}
use Rattle.cpa_interval.specs.Widening.{next_down, next_up}
use Rattle.cpa_interval.proofs.widening.nearest.Given as goal

abbrev pub invariant-loop-number : goal.invariant-loop-number
invariant-loop-number l =
    bounds (next_down l.numbers l.fn.range.lo l.new.lo) (next_up l.numbers l.fn.range.hi l.new.hi)
    ≡ bounds (next_down (drop l.number-index l.numbers) l.own.lo l.new.lo)
    (next_up (drop l.number-index l.numbers) l.own.hi l.new.hi)
