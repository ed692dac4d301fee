use Rattle.cpa_iface.specs.declared.entries.Entry.{Entry}
use Rattle.cpa_reached.specs.Calls.{replacing}
use Rattle.cpa_reached.proofs.Renamed.{gave_way}
use Rattle.cpa_reached.proofs.renaming.succeed.Goals as goal

pub returns : goal.returns
returns c = λ n at.
    rw (
      c.push_reserved.ensures.items,
      c.trimmed.ensures,
      c.new.ensures,
      c.remove-entry.ensures.items,
    )
    (gave_way (λ (e : Entry). e.number) (replacing c.args.number c.args.elems.items)
    c.args.entries.now.items c.args.place n c.remove-entry.result c.requires.ascend at
    c.remove-entry.ensures.value)
