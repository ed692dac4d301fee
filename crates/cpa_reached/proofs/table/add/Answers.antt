use Rattle.std.proofs.Common.{rules, ◌≡◌, ◌+◌, ◌<◌, ◌≤◌, ◌^◌, refl, sym, ◌∙◌, arith}
use Rattle.cpa_reached_key.specs.Rows.{picked}
use Rattle.cpa_reached.specs.Entries.{IsLive}
use Rattle.cpa_reached.specs.Kept.{depth_of}
use Rattle.cpa_reached.proofs.Adding.{kept_added}
use Rattle.cpa_reached.proofs.Climbing.{depth_read}
use Rattle.cpa_reached.proofs.Keeping.{shallow_above}
use Rattle.cpa_reached.proofs.Tying.{named_there}
use Rattle.cpa_reached.proofs.table.add.Goals as goal

pub adopt-requires-clause-ascend : goal.adopt-requires-clause-ascend
adopt-requires-clause-ascend c = c.in_ok-list_namer.ensures.kept.tree.ascend

pub adopt-requires-clause-indexed : goal.adopt-requires-clause-indexed
adopt-requires-clause-indexed c =
    let namer = c.in_ok-list_namer.ensures in
    let room = c.in_ok-reserve.ensures in
    rw (namer.entries, namer.index, namer.places, room.entries, room.index, room.places)
    c.requires.indexed

pub adopt-requires-clause-parent : goal.adopt-requires-clause-parent
adopt-requires-clause-parent c =
    rw (c.in_ok-list_namer.ensures.entries, c.in_ok-reserve.ensures.entries) c.requires.parent

pub returns-in_err-adopt-clause-kept : goal.returns-in_err-adopt-clause-kept
returns-in_err-adopt-clause-kept c =
    let adopts = c.in_err-adopt.ensures in
    rw (adopts.err, adopts.links, adopts.waiting, adopts.next) c.in_ok-list_namer.ensures.kept

pub overflow_add-depth : goal.overflow_add-depth
overflow_add-depth c =
    let t = c.list_namer.new.table in
    let p = c.args.parent.0 in
    let kept = c.in_ok-list_namer.ensures.kept in
    let at = rw c.deref-4.ensures.value at c.place-above.ensures.at in
    let read = rw c.deref-5.ensures.value at c.depth_at-depth.ensures in
    let depth : c.depth_at-depth.result ≡ depth_of p t.links.items =
    depth_read t.entries.items t.links.items c.place-above.result p c.depth_at-depth.result
    kept.tree at read in
    let low : depth_of p t.links.items + 1 ≤ t.next =
    shallow_above t.entries.items t.links.items t.waiting.items t.next p
    (named_there t.links.items p c.in_ok-number.number c.in_ok-list_namer.ensures.named) kept in
    omega (
      arith,
      depth,
      low,
      c.in_ok-number.ensures.fits,
      c.in_ok-list_namer.ensures.next,
      c.in_ok-reserve.ensures.next,
    )

pub returns-clause-kept : goal.returns-clause-kept
returns-clause-kept c =
    let t = c.list_namer.new.table in
    let p = c.args.parent.0 in
    let kept = c.in_ok-list_namer.ensures.kept in
    let at = rw c.deref-4.ensures.value at c.place-above.ensures.at in
    let read = rw c.deref-5.ensures.value at c.depth_at-depth.ensures in
    let depth : c.depth_at-depth.result ≡ depth_of p t.links.items =
    depth_read t.entries.items t.links.items c.place-above.result p c.depth_at-depth.result
    kept.tree at read in
    let number : c.in_ok-number.number ≡ t.next =
    c.in_ok-number.ensures.same ∙ sym c.in_ok-reserve.ensures.next
    ∙ sym c.in_ok-list_namer.ensures.next in
    let fits : t.next < 2 ^ 32 =
    omega (arith, c.in_ok-number.ensures.fits, c.in_ok-number.ensures.same, number) in
    let live : IsLive t.entries.items p =
    rw (c.in_ok-list_namer.ensures.entries, c.in_ok-reserve.ensures.entries) c.requires.parent in
    let listed = rw number at c.in_ok-list_namer.ensures.named in
    rw (
      c.push_reserved.ensures.items,
      c.in_ok-adopt.ensures.ok,
      c.trimmed.ensures,
      c.in_ok-elems.ensures,
      c.in_ok-row.ensures,
      c.new.ensures,
      c.push_reserved-2.ensures.items,
      c.in_ok-adopt.ensures.links,
      depth,
      c.in_ok-push.ensures.ok,
      c.new-namers.ensures,
      c.push_back_reserved.ensures.items,
      c.in_ok-adopt.ensures.waiting,
      c.in_ok-adopt.ensures.next,
      number,
    )
    (kept_added t.entries.items t.links.items t.waiting.items t.next c.args.elems.items
    c.args.precisions.items c.args.parent fits live listed kept)

pub returns-clause-indexed : goal.returns-clause-indexed
returns-clause-indexed c =
    let t = c.list_namer.new.table in
    let namer = c.in_ok-list_namer.ensures in
    let room = c.in_ok-reserve.ensures in
    let key : picked t.places c.args.elems.items ≡ c.in_ok-key.key.elems = search rules in
    rw (c.push_reserved.ensures.items, c.in_ok-adopt.ensures.places)
    (c.in_ok-adopt.ensures.indexed _ refl (rw (c.trimmed.ensures, c.in_ok-elems.ensures) key))
