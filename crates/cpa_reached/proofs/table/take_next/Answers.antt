use Rattle.std.proofs.Common.{refl}
use Rattle.cpa_iface.specs.declared.entries.Entry.{Entry}
use Rattle.cpa_reached.specs.Calls.{rests}
use Rattle.cpa_reached.specs.lemmas.MemberLaws.{ascend_kept}
use Rattle.cpa_reached.proofs.Keeping.{kept_rests, waiting_live}
use Rattle.cpa_reached.proofs.Keying.{indexed_at}
use Rattle.cpa_reached.proofs.table.take_next.Goals as goal

pub pop-requires : goal.pop-requires
pop-requires c = rw c.requires.kept.waits
    (ascend_kept (λ (e : Entry). e.waiting) c.args.table.now.entries.items
    c.requires.kept.tree.ascend)

pub rest-requires-clause-live : goal.rest-requires-clause-live
rest-requires-clause-live c =
    waiting_live c.args.table.now.entries.items c.in-Some.number
    (rw c.requires.kept.waits at c.in-Some.ensures.waits)

pub returns-in-Some-clause-kept : goal.returns-in-Some-clause-kept
returns-in-Some-clause-kept c =
    let t = c.args.table.now in
    rw (c.rest.ensures, c.in-Some.ensures.left)
    (kept_rests c.in-Some.number t.entries.items t.links.items t.waiting.items t.next
    c.requires.kept)

pub returns-in-Some-clause-indexed : goal.returns-in-Some-clause-indexed
returns-in-Some-clause-indexed c =
    let t = c.args.table.now in
    rw c.rest.ensures
    (indexed_at t.places t.entries.items t.index.entries c.in-Some.number rests (λ e. refl)
    (λ e. refl) c.requires.indexed)
