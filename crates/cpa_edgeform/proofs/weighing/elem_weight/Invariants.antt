-- The sum so far, with what is left, is the sum, or the greatest number.
use Rattle.std.proofs.Common.{◌≡◌, ◌+◌, ◌-◌, ◌^◌, ◌≤◌, min, map}
use Rattle.std.specs.Prelude.{sum}
use Rattle.cpa_form_rules.specs.Forms.{fact_weight, elem_weight}
use Rattle.cpa_edgeform.proofs.weighing.elem_weight.Given as goal

abbrev pub invariant-loop-fact : goal.invariant-loop-fact
invariant-loop-fact l =
    (l.total ≤ 2 ^ 64 - 1)
    × (min (l.total + sum (map (fact_weight l.places) l.fact-iterator)) (2 ^ 64 - 1)
    ≡ min (elem_weight l.places l.elem) (2 ^ 64 - 1))
