use Rattle.std.proofs.Common.{ap}
use Rattle.cpa_iface.specs.declared.entries.Entry.{Entry}
use Rattle.cpa_reached.proofs.Keys.{one_at}
use Rattle.cpa_reached.proofs.finding.parent_of.Goals as goal

pub returns : goal.returns
returns c = λ e there is.
    ap (λ (y : Entry). y.parent)
    (one_at c.args.entries.now c.place.result c.args.number c.index-entries-place.result e
    c.requires.ascend c.place.ensures.at there is)
