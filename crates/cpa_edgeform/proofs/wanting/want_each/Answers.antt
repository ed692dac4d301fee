-- One list more.
use Rattle.std.proofs.Common.{◌+◌, ◌∙◌, drop, sym, ap, arith}
use Rattle.cpa_form_rules.specs.Tests.{want_some, want_each}
use Rattle.cpa_edgeform.proofs.Turns.{next_item}
use Rattle.cpa_edgeform.proofs.wanting.want_each.Goals as goal

pub loop-tests-preserved : goal.loop-tests-preserved
loop-tests-preserved c =
    let l = c.loop-tests in
    let places = c.args.places.now in
    let lists = c.args.lists.now in
    let rest = drop (l.tests-index + 1) lists in
    ap (want_each places rest)
    (c.in_ok-want_some.ensures
    ∙ ap (λ tests. want_some places tests l.draft) c.as_slice.ensures)
    ∙ sym (ap (λ left. want_each places left l.draft)
    (next_item lists l.tests-index c.tests-item.result (omega arith) c.tests-item.is))
    ∙ l.invariant
