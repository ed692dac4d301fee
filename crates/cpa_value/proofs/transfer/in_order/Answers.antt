-- The element of all that is known says the same, in order.
use Rattle.std.proofs.Common.{◌∙◌}
use Rattle.std.proofs.lemmas.Result.{IfOk-weaker}
use Rattle.cpa_model.specs.declared.facts.Elem.{Elem}
use Rattle.cpa_value.proofs.ChangeLemmas.{few_known, ordered_again, same_again}
use Rattle.cpa_value.proofs.transfer.in_order.Goals as goal

pub elem_of_known-requires : goal.elem_of_known-requires
elem_of_known-requires c =
    few_known c.args.count c.args.facts.now c.deref.result.now c.requires
    (c.deref.ensures.value ∙ c.in_ok-cells.ensures)

pub returns-clause-ordered : goal.returns-clause-ordered
returns-clause-ordered c = IfOk-weaker _ _ _ (λ (e : Elem) is.
    ordered_again c.args.count c.args.facts.now c.deref.result.now e
    (c.deref.ensures.value ∙ c.in_ok-cells.ensures) is)
    c.elem_of_known.ensures

pub returns-clause-same : goal.returns-clause-same
returns-clause-same c = IfOk-weaker _ _ _ (λ (e : Elem) is.
    same_again c.args.count c.args.facts.now c.deref.result.now e
    (c.deref.ensures.value ∙ c.in_ok-cells.ensures) is)
    c.elem_of_known.ensures
