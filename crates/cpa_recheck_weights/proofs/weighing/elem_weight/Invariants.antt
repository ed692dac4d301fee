-- The sum so far, with what is left, is the sum, or the greatest number.
use Rattle.std.proofs.Common.{◌≡◌, ◌+◌, ◌-◌, ◌^◌, ◌≤◌, min, map}
use Rattle.std.specs.Prelude.{sum}
use Rattle.cpa_form_rules.specs.Forms.{elem_weight, fact_weight, places_from}
use Rattle.cpa_recheck_weights.proofs.weighing.elem_weight.Given as goal

abbrev pub invariant-loop-fact : goal.invariant-loop-fact
invariant-loop-fact l =
    (l.total ≤ 2 ^ 64 - 1)
    × (min (l.total + sum (map (fact_weight (places_from 0 l.cells)) l.fact-iterator)) (2 ^ 64 - 1)
    ≡ min (elem_weight (places_from 0 l.cells) l.elem) (2 ^ 64 - 1))
