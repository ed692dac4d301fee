-- The facts before the change, its own and those behind it.
use Rattle.std.proofs.Common.{refl, ap, ◌+◌}
use Rattle.cpa_model.specs.declared.facts.Elem.{Elem}
use Rattle.cpa_folds.specs.Tracking.{is_tracked}
use Rattle.cpa_value.proofs.ChangeLemmas.{made_elem}
use Rattle.cpa_value.proofs.PlaceLemmas.{replaced_is}
use Rattle.cpa_value.proofs.transfer.facts_replaced.Goals as goal

pub returns : goal.returns
returns c =
    let tracked = is_tracked c.args.tracked.now in
    let facts = c.in_ok-replaced.field-0 in
    let elem : Elem = record { facts = facts } in
    made_elem tracked c.args.count c.args.change c.args.facts.now facts elem
    (replaced_is tracked c.args.count c.args.change c.lesser-first.result _ c.place_of-from.result
    c.place_of-to.result c.args.facts.now c.new-own.result c.push_along.new.left facts
    c.requires.ordered c.requires.within c.lesser-first.ensures
    (ap (λ n. c.lesser-first.result + n) c.lesser-taken.ensures)
    (c.place_of-from.ensures c.args.count c.requires.ordered)
    (c.place_of-to.ensures c.args.count c.requires.ordered) c.new-own.ensures
    c.in_ok-push_along.ensures c.in_ok-replaced.ensures)
    refl
