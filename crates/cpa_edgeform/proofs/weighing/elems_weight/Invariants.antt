-- What has been summed up is the sum so far, or the greatest number.
use Rattle.std.proofs.Common.{◌≡◌, ◌-◌, ◌^◌, min, take}
use Rattle.std.specs.List.{sum_by}
use Rattle.cpa_form_rules.specs.Forms.{elem_weight}
use Rattle.cpa_edgeform.proofs.weighing.elems_weight.Given as goal

abbrev pub invariant-loop-elem : goal.invariant-loop-elem
invariant-loop-elem l =
    l.total ≡ min (sum_by (elem_weight l.places) (take l.elem-index l.elems)) (2 ^ 64 - 1)
