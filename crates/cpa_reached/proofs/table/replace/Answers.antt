use Rattle.std.proofs.Common.{◌≡◌, ℕ, ◌<◌, ◌^◌, true, List, Some, slice_get, sym, ap, ◌∙◌}
use Rattle.std.proofs.Common.{subst, arith}
use Rattle.cpa_iface.specs.declared.entries.Entry.{Entry}
use Rattle.cpa_reached.specs.Calls.{replaced_entries}
use Rattle.cpa_reached.specs.Entries.{numbers, IsLive}
use Rattle.cpa_reached.specs.Kept.{is_named_by}
use Rattle.cpa_reached.specs.lemmas.MemberLaws.{ascend_kept, in_all, live_in}
use Rattle.cpa_reached.proofs.Replacing.{ascend_succeeded, kept_replaced}
use Rattle.cpa_reached.proofs.Renamed.{renamed_by}
use Rattle.cpa_reached.proofs.table.replace.Goals as goal

pub replace_key-requires-clause-indexed : goal.replace_key-requires-clause-indexed
replace_key-requires-clause-indexed c =
    let names = c.in_ok-name_parent.ensures in
    let room = c.in_ok-reserve.ensures in
    rw (names.entries, names.index, names.places, room.entries, room.index, room.places)
    c.requires.indexed

pub replace_key-requires-clause-live : goal.replace_key-requires-clause-live
replace_key-requires-clause-live c =
    rw (c.in_ok-name_parent.ensures.entries, c.in_ok-reserve.ensures.entries) c.requires.live

pub replace_key-requires-clause-apart : goal.replace_key-requires-clause-apart
replace_key-requires-clause-apart c =
    let t = c.name_parent.new.table in
    let kept = c.in_ok-name_parent.ensures.kept in
    let number : c.in_ok-number.number ≡ t.next =
    c.in_ok-number.ensures.same ∙ sym c.in_ok-reserve.ensures.next
    ∙ sym c.in_ok-name_parent.ensures.next in
    let live : IsLive t.entries.items c.args.old =
    rw (c.in_ok-name_parent.ensures.entries, c.in_ok-reserve.ensures.entries) c.requires.live in
    let less : c.args.old < t.next =
    in_all (λ n. n < t.next) (numbers t.entries.items) c.args.old kept.below
    (live_in t.entries.items c.args.old live) in
    omega (arith, less, number)

pub drop_number-requires : goal.drop_number-requires
drop_number-requires c =
    let t = c.replace_key.new.table in
    let kept = c.in_ok-elems.ensures.kept in
    rw kept.waits (ascend_kept (λ (e : Entry). e.waiting) t.entries.items kept.tree.ascend)

pub rename_among-requires-clause-ascend : goal.rename_among-requires-clause-ascend
rename_among-requires-clause-ascend c =
    let t = c.replace_key.new.table in
    let kept = c.in_ok-elems.ensures.kept in
    let at = rw c.deref.ensures.value at c.place-at.ensures.at in
    let number : c.in_ok-number.number ≡ t.next =
    c.in_ok-number.ensures.same ∙ sym c.in_ok-reserve.ensures.next
    ∙ sym c.in_ok-name_parent.ensures.next ∙ sym c.in_ok-elems.ensures.next in
    let live : IsLive t.entries.items c.args.old =
    rw (
      c.in_ok-elems.ensures.entries,
      c.in_ok-name_parent.ensures.entries,
      c.in_ok-reserve.ensures.entries,
    ) c.requires.live in
    rw (c.succeed.ensures c.args.old at, c.in_ok-elems.ensures.elems, number)
    (ascend_succeeded t.next c.args.old t.entries.items c.args.elems.items kept.tree.ascend
    (live_in t.entries.items c.args.old live) kept.below)

pub rename_among-requires-clause-apart : goal.rename_among-requires-clause-apart
rename_among-requires-clause-apart c =
    let t = c.replace_key.new.table in
    let kept = c.in_ok-elems.ensures.kept in
    let number : c.in_ok-number.number ≡ t.next =
    c.in_ok-number.ensures.same ∙ sym c.in_ok-reserve.ensures.next
    ∙ sym c.in_ok-name_parent.ensures.next ∙ sym c.in_ok-elems.ensures.next in
    let live : IsLive t.entries.items c.args.old =
    rw (
      c.in_ok-elems.ensures.entries,
      c.in_ok-name_parent.ensures.entries,
      c.in_ok-reserve.ensures.entries,
    ) c.requires.live in
    let less : c.args.old < t.next =
    in_all (λ n. n < t.next) (numbers t.entries.items) c.args.old kept.below
    (live_in t.entries.items c.args.old live) in
    omega (arith, less, number)

pub returns-clause-kept : goal.returns-clause-kept
returns-clause-kept c =
    let t = c.replace_key.new.table in
    let old = c.args.old in
    let es = c.args.elems.items in
    let kept = c.in_ok-elems.ensures.kept in
    let at = rw c.deref.ensures.value at c.place-at.ensures.at in
    let at_link = subst (λ (ns : List ℕ). slice_get ns c.place-at.result ≡ Some old)
    (sym kept.tree.same) at in
    let number : c.in_ok-number.number ≡ t.next =
    c.in_ok-number.ensures.same ∙ sym c.in_ok-reserve.ensures.next
    ∙ sym c.in_ok-name_parent.ensures.next ∙ sym c.in_ok-elems.ensures.next in
    let fits : t.next < 2 ^ 32 =
    omega (arith, c.in_ok-number.ensures.fits, c.in_ok-number.ensures.same, number) in
    let live : IsLive t.entries.items old =
    rw (
      c.in_ok-elems.ensures.entries,
      c.in_ok-name_parent.ensures.entries,
      c.in_ok-reserve.ensures.entries,
    ) c.requires.live in
    let made : c.rename_among.new.entries.items ≡ replaced_entries t.next t.entries.items old es =
    rw (
      c.rename_among.ensures,
      c.as_slice.ensures,
      c.succeed.ensures old at,
      c.in_ok-elems.ensures.elems,
      number,
    )
    (renamed_by t.entries.items t.links.items c.place-at.result t.next old es c.index.result.now
    kept.tree at_link c.index.ensures) in
    rw (
      made,
      c.renumber.ensures old at_link,
      c.push_back_reserved.ensures.items,
      c.drop_number.ensures.items,
      number,
    )
    (kept_replaced t.entries.items t.links.items t.waiting.items t.next old es fits live
    (λ e p edge there is has.
    let before = rw (c.in_ok-elems.ensures.entries, c.in_ok-name_parent.ensures.entries)
    at there in
    let named = c.in_ok-name_parent.ensures.named e p edge before is has in
    rw c.in_ok-elems.ensures.links
    (subst (λ (n : ℕ). is_named_by c.name_parent.new.table.links.items p n ≡ true) number named))
    kept)

pub returns-clause-ok : goal.returns-clause-ok
returns-clause-ok c =
    let t = c.replace_key.new.table in
    let first = c.args.table.now in
    let old = c.args.old in
    let es = c.args.elems.items in
    let kept = c.in_ok-elems.ensures.kept in
    let at = rw c.deref.ensures.value at c.place-at.ensures.at in
    let at_link = subst (λ (ns : List ℕ). slice_get ns c.place-at.result ≡ Some old)
    (sym kept.tree.same) at in
    let next : t.next ≡ first.next =
    c.in_ok-elems.ensures.next ∙ c.in_ok-name_parent.ensures.next
    ∙ c.in_ok-reserve.ensures.next in
    let number : c.in_ok-number.number ≡ t.next = c.in_ok-number.ensures.same ∙ sym next in
    let same : t.entries.items ≡ first.entries.items =
    rw (c.in_ok-elems.ensures.entries, c.in_ok-name_parent.ensures.entries)
    c.in_ok-reserve.ensures.entries in
    let made : c.rename_among.new.entries.items ≡ replaced_entries t.next t.entries.items old es =
    rw (
      c.rename_among.ensures,
      c.as_slice.ensures,
      c.succeed.ensures old at,
      c.in_ok-elems.ensures.elems,
      number,
    )
    (renamed_by t.entries.items t.links.items c.place-at.result t.next old es c.index.result.now
    kept.tree at_link c.index.ensures) in
    made ∙ ap (λ (n : ℕ). replaced_entries n t.entries.items old es) next
    ∙ ap (λ (xs : List Entry). replaced_entries first.next xs old es) same

pub returns-clause-indexed : goal.returns-clause-indexed
returns-clause-indexed c =
    let t = c.replace_key.new.table in
    let old = c.args.old in
    let es = c.args.elems.items in
    let kept = c.in_ok-elems.ensures.kept in
    let at = rw c.deref.ensures.value at c.place-at.ensures.at in
    let at_link = subst (λ (ns : List ℕ). slice_get ns c.place-at.result ≡ Some old)
    (sym kept.tree.same) at in
    let number : c.in_ok-number.number ≡ t.next =
    c.in_ok-number.ensures.same ∙ sym c.in_ok-reserve.ensures.next
    ∙ sym c.in_ok-name_parent.ensures.next ∙ sym c.in_ok-elems.ensures.next in
    let made : c.rename_among.new.entries.items ≡ replaced_entries t.next t.entries.items old es =
    rw (
      c.rename_among.ensures,
      c.as_slice.ensures,
      c.succeed.ensures old at,
      c.in_ok-elems.ensures.elems,
      number,
    )
    (renamed_by t.entries.items t.links.items c.place-at.result t.next old es c.index.result.now
    kept.tree at_link c.index.ensures) in
    rw (made, c.in_ok-elems.ensures.entries, c.in_ok-elems.ensures.places)
    (rw number at c.in_ok-elems.ensures.ok)
