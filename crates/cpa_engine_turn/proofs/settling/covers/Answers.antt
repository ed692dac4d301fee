use Rattle.std.proofs.Common.{sym, ap, ◌∙◌}
use Rattle.cpa_iface.specs.declared.entries.Entry.{Entry}
use Rattle.cpa_composite.specs.Composites.{components}
use Rattle.cpa_composite.specs.Covers.{all_cover}
use Rattle.cpa_reached.specs.lemmas.MemberLaws.{one_entry}
use Rattle.cpa_engine_turn.proofs.settling.covers.Goals as goal

pub returns : goal.returns
returns g c = λ e there number.
    let cs = components c.args.composite.now in
    let es = c.args.elems.now in
    let xs = c.args.reached.now.live in
    let x = c.entry-entry.result.now in
    c.covered_by.ensures.value
    ∙ (ap (all_cover cs es) c.as_slice.ensures
    ∙ ap (λ (y : Entry). all_cover cs es y.elems)
    (one_entry xs x e c.entry-entry.ensures.numbered.ascend c.entry-entry.ensures.is_in there
    (c.entry-entry.ensures.number ∙ sym number)))
