use Rattle.std.proofs.Common.{refl}
use Rattle.cpa_reached.specs.Calls.{with_precisions}
use Rattle.cpa_reached.proofs.Keeping.{kept_precisions}
use Rattle.cpa_reached.proofs.Keying.{indexed_at}
use Rattle.cpa_reached.proofs.table.set_precisions.Goals as goal

pub returns-clause-kept : goal.returns-clause-kept
returns-clause-kept c =
    let t = c.args.table.now in
    rw c.put_precisions.ensures
    (kept_precisions c.args.entry c.args.precisions.items t.entries.items t.links.items
    t.waiting.items t.next c.requires.kept)

pub returns-clause-indexed : goal.returns-clause-indexed
returns-clause-indexed c =
    let t = c.args.table.now in
    rw c.put_precisions.ensures
    (indexed_at t.places t.entries.items t.index.entries c.args.entry
    (with_precisions c.args.precisions.items) (λ e. refl) (λ e. refl) c.requires.indexed)
