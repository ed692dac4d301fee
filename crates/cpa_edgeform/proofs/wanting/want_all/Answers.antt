-- One expression more.
use Rattle.std.proofs.Common.{◌+◌, ◌∙◌, drop, sym, ap, arith}
use Rattle.cpa_form_rules.specs.Drafts.{want_all}
use Rattle.cpa_edgeform.proofs.Turns.{next_item}
use Rattle.cpa_edgeform.proofs.wanting.want_all.Goals as goal

pub loop-one-preserved : goal.loop-one-preserved
loop-one-preserved c =
    let l = c.loop-one in
    let places = c.args.places.now in
    let asked = c.args.asked.now in
    ap (want_all places (drop (l.one-index + 1) asked)) c.in_ok-want_renamed.ensures
    ∙ sym (ap (λ rest. want_all places rest l.draft)
    (next_item asked l.one-index c.one-item.result (omega arith) c.one-item.is))
    ∙ l.invariant
