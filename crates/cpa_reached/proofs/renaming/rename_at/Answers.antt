use Rattle.std.proofs.Common.{sym}
use Rattle.cpa_iface.specs.declared.entries.Entry.{Entry}
use Rattle.cpa_reached.specs.Calls.{renamed}
use Rattle.cpa_reached.proofs.Keys.{written}
use Rattle.cpa_reached.proofs.Renamed.{absent_same}
use Rattle.cpa_reached.proofs.renaming.rename_at.Goals as goal

pub returns-in-Some : goal.returns-in-Some
returns-in-Some c =
    let there = c.index_mut.result.now in
    let at = rw c.deref.ensures.value at c.in-Some.ensures.some in
    rw c.rename_in.ensures
    (written (λ (e : Entry). e.number) c.args.entries.now.items c.in-Some.place c.args.namer
    (renamed c.args.old c.args.next) there there c.requires at c.index_mut.ensures.value)

pub returns-in-None : goal.returns-in-None
returns-in-None c =
    sym (absent_same c.args.namer (renamed c.args.old c.args.next) c.args.entries.now.items
    (rw c.deref.ensures.value at c.in-None.ensures.none))
