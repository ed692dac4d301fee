use Rattle.cpa_iface.specs.declared.entries.Entry.{Entry}
use Rattle.cpa_reached.specs.Removal.{opened}
use Rattle.cpa_reached.proofs.Keys.{written}
use Rattle.cpa_reached.proofs.opening.open.Goals as goal

pub returns : goal.returns
returns c =
    let there = c.index_mut.result.now in
    rw c.open_entry.ensures
    (written (λ (e : Entry). e.number) c.args.entries.now.items c.place-at.result c.args.number
    opened there there c.requires.ascend (rw c.deref.ensures.value at c.place-at.ensures.at)
    c.index_mut.ensures.value)
