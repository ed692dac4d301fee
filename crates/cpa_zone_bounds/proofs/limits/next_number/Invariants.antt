-- What is left gives what the whole gives.
use Rattle.std.proofs.Common.{◌≡◌, drop}
use Rattle.cpa_zone_bounds.specs.Limits.{next_number}
use Rattle.cpa_zone_bounds.proofs.limits.next_number.Given as goal

abbrev pub invariant-loop-number : goal.invariant-loop-number
invariant-loop-number l =
    next_number l.numbers l.top l.end
    ≡ next_number (drop l.number-index l.numbers) l.own l.end
