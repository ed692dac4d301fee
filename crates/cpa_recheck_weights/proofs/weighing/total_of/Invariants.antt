-- What has been summed up is the sum so far, or the greatest number.
use Rattle.std.proofs.Common.{◌≡◌, ◌-◌, ◌^◌, min, take}
use Rattle.std.specs.Prelude.{slice_get}
use Rattle.std.specs.List.{sum_by}
use Rattle.cpa_recheck_weights.specs.Weights.{weight_in}
use Rattle.cpa_recheck_weights.proofs.weighing.total_of.Given as goal

abbrev pub invariant-loop-number : goal.invariant-loop-number
invariant-loop-number l =
    l.total
    ≡ min (sum_by (λ n. weight_in (slice_get l.weights n)) (take l.number-index l.numbers))
    (2 ^ 64 - 1)
