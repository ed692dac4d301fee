-- The facts before the change, its own and those behind it.
use Rattle.std.proofs.Common.{ap, ◌+◌, ◌∙◌}
use Rattle.std.proofs.lemmas.Result.{IfOk-weaker}
use Rattle.cpa_model.specs.declared.facts.Elem.{Elem}
use Rattle.cpa_folds.specs.Tracking.{is_tracked}
use Rattle.cpa_value.proofs.ChangeLemmas.{behind_is, made_elem}
use Rattle.cpa_value.proofs.transfer.facts_behind.Goals as goal

pub returns : goal.returns
returns c =
    let tracked = is_tracked c.args.tracked.now in
    let change = c.args.change in
    let is = behind_is tracked c.args.count change.first change.count change.value _ _
    c.args.facts.now _ _ _ _ c.requires.ordered c.lesser-first.ensures
    (ap (λ n. c.lesser-first.result + n) c.lesser-taken.ensures)
    (c.from_vec-left.ensures ∙ c.in_ok-with_capacity.ensures.items) c.in_ok-push_within.ensures
    c.in_ok-push_along.ensures c.in_ok-push_within-2.ensures in
    IfOk-weaker _ _ _ (λ (e : Elem) made.
    made_elem tracked c.args.count change c.args.facts.now c.push_within-2.new.left e is made)
    c.new.ensures
