-- One weight more.
use Rattle.std.proofs.Common.{◌+◌, ◌-◌, ◌^◌, ◌∙◌, ℕ, min, ap, arith}
use Rattle.cpa_form_rules.specs.Forms.{elem_weight}
use Rattle.cpa_edgeform.proofs.Sums.{one_weight, all_weights}
use Rattle.cpa_edgeform.proofs.weighing.elems_weight.Goals as goal

pub loop-elem-preserved : goal.loop-elem-preserved
loop-elem-preserved c =
    let l = c.loop-elem in
    one_weight (elem_weight c.args.places.now) c.args.elems.now l.elem-index c.elem-item.result
    l.total _ (2 ^ 64 - 1) (omega arith) c.elem-item.is
    (c.saturating_add-total.ensures
    ∙ ap (λ (n : ℕ). min (l.total + n) (2 ^ 64 - 1)) c.elem_weight.ensures)
    l.invariant

pub returns : goal.returns
returns c =
    let l = c.loop-elem in
    all_weights (elem_weight c.args.places.now) c.args.elems.now l.elem-index l.total (2 ^ 64 - 1)
    (omega arith) l.invariant
