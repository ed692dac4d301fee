use Rattle.cpa_iface.specs.declared.entries.Entry.{Entry}
use Rattle.cpa_reached.specs.Calls.{with_precisions}
use Rattle.cpa_reached.proofs.Keys.{written}
use Rattle.cpa_reached.proofs.finding.put_precisions.Goals as goal

pub returns : goal.returns
returns c =
    let there = c.index_mut.result.now in
    let at = rw c.deref.ensures.value at c.place-at.ensures.at in
    rw (c.own.ensures, c.trimmed.ensures)
    (written (λ (e : Entry). e.number) c.args.entries.now.items c.place-at.result c.args.number
    (with_precisions c.args.precisions.items) there there c.requires.ascend at
    c.index_mut.ensures.value)
