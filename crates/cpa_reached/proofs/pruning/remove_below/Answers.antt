use Rattle.std.proofs.Common.{◌≡◌, List, map, not, subst, sym}
use Rattle.std.specs.List.{filter}
use Rattle.std.specs.Cmp.{both_ways}
use Rattle.cpa_iface.specs.declared.entries.Entry.{Entry}
use Rattle.cpa_reached.specs.Entries.{numbers, waiting_numbers}
use Rattle.cpa_reached.specs.Indexes.{AreKeysOf, IsIndex}
use Rattle.cpa_reached.specs.Kept.{IsKept, opened_among, waits_again, without_links}
use Rattle.cpa_reached.specs.lemmas.MemberLaws.{ascend_kept}
use Rattle.cpa_reached.specs.Members.{is_in}
use Rattle.cpa_reached.specs.Removal.{left, without}
use Rattle.cpa_reached.proofs.Keying.{indexed_map}
use Rattle.cpa_reached.proofs.Leaving.{keys_long}
use Rattle.cpa_reached.proofs.Lowering.{below_live}
use Rattle.cpa_reached.proofs.Pruned.{kept_removed}
use Rattle.cpa_reached.proofs.Reopened.{again_kept, opened_elems, opened_left, opened_number, told}
use Rattle.cpa_reached.proofs.Reopened.{waits_exactly}
use Rattle.cpa_reached.proofs.pruning.remove_below.Goals as goal

pub reopened-requires-clause-live : goal.reopened-requires-clause-live
reopened-requires-clause-live c =
    rw (c.deref-3.ensures.value, c.deref-5.ensures.value)
    (below_live c.args.table.now.entries.items c.args.pivot c.in_ok-gone.gone.items
    (rw c.deref.ensures.value at c.in_ok-gone.ensures.only))

pub keys_of-requires-clause-live : goal.keys_of-requires-clause-live
keys_of-requires-clause-live c =
    rw (c.deref-8.ensures.value, c.deref-9.ensures.value)
    (below_live c.args.table.now.entries.items c.args.pivot c.in_ok-gone.gone.items
    (rw c.deref.ensures.value at c.in_ok-gone.ensures.only))

pub leave_all-requires : goal.leave_all-requires
leave_all-requires c =
    let t = c.args.table.now in
    rw (c.deref-10.ensures.value, c.deref-11.ensures.value)
    (keys_long t.places t.entries.items c.in_ok-gone.gone.items c.in_ok-keys.keys.items
    (rw (c.as_slice.ensures, c.deref-8.ensures.value, c.deref-9.ensures.value)
    at c.in_ok-keys.ensures))

pub open_all-requires-clause-ascend : goal.open_all-requires-clause-ascend
open_all-requires-clause-ascend c =
    rw (c.drop_entries.ensures, c.deref-12.ensures.value)
    (ascend_kept (λ e. not (is_in e.number c.in_ok-gone.gone.items))
    c.args.table.now.entries.items c.requires.kept.tree.ascend)

pub open_all-requires-clause-live : goal.open_all-requires-clause-live
open_all-requires-clause-live c =
    rw (c.drop_entries.ensures, c.deref-12.ensures.value, c.deref-14.ensures.value)
    (again_kept c.in_ok-gone.gone.items c.args.pivot c.args.table.now.entries.items
    c.in_ok-opened.opened.items
    (rw (c.deref-3.ensures.value, c.deref-5.ensures.value) at c.in_ok-opened.ensures))

pub returns-clause-kept : goal.returns-clause-kept
returns-clause-kept c =
    let t = c.args.table.now in
    let xs = t.entries.items in
    let pivot = c.args.pivot in
    let gone = c.in_ok-gone.gone.items in
    let opened = c.in_ok-opened.opened.items in
    let after = c.in_ok-waiting.waiting.items in
    let all = rw c.deref.ensures.value at c.in_ok-gone.ensures.all in
    let only = rw c.deref.ensures.value at c.in_ok-gone.ensures.only in
    let up = c.requires.kept.tree.ascend in
    let again : opened ≡ numbers (filter (waits_again gone pivot) xs) =
    rw (c.deref-3.ensures.value, c.deref-5.ensures.value) at c.in_ok-opened.ensures in
    let waits : after ≡ waiting_numbers (map (left gone pivot) (without gone xs)) =
    waits_exactly gone pivot xs t.waiting.items opened after up c.requires.kept.waits again
    c.in_ok-waiting.ensures.ascend
    (rw (c.deref-6.ensures.value, c.deref-7.ensures.value) at c.in_ok-waiting.ensures.same) in
    rw (
      c.open_all.ensures,
      c.drop_entries.ensures,
      c.drop_links.ensures,
      c.deref-12.ensures.value,
      c.deref-13.ensures.value,
      c.deref-14.ensures.value,
    )
    (subst (λ (zs : List Entry). IsKept zs (without_links gone t.links.items) after t.next)
    (sym (opened_left gone pivot xs opened up again))
    (kept_removed gone pivot xs t.links.items t.waiting.items after t.next all only waits
    c.requires.kept))

pub returns-clause-indexed : goal.returns-clause-indexed
returns-clause-indexed c =
    let t = c.args.table.now in
    let xs = t.entries.items in
    let gone = c.in_ok-gone.gone.items in
    let opened = c.in_ok-opened.opened.items in
    let keys : AreKeysOf t.places xs gone c.in_ok-keys.keys.items =
    rw (c.as_slice.ensures, c.deref-8.ensures.value, c.deref-9.ensures.value)
    at c.in_ok-keys.ensures in
    let leaves = rw (c.deref-10.ensures.value, c.deref-11.ensures.value) at c.leave_all.ensures in
    let index : IsIndex t.places (without gone xs) c.leave_all.new.index.entries =
    leaves t.places xs c.requires.indexed keys in
    rw (
      c.open_all.ensures,
      c.drop_entries.ensures,
      c.deref-12.ensures.value,
      c.deref-14.ensures.value,
    )
    (indexed_map t.places (without gone xs) c.leave_all.new.index.entries (opened_among opened)
    (opened_number opened) (opened_elems opened) index)

pub returns-clause-ok : goal.returns-clause-ok
returns-clause-ok c =
    let xs = c.args.table.now.entries.items in
    let gone = c.in_ok-gone.gone.items in
    record {
      gone = gone;
      all = rw c.deref.ensures.value at c.in_ok-gone.ensures.all;
      only = rw c.deref.ensures.value at c.in_ok-gone.ensures.only;
      is = rw (
        c.open_all.ensures,
        c.drop_entries.ensures,
        c.deref-12.ensures.value,
        c.deref-14.ensures.value,
      )
          (opened_left gone c.args.pivot xs c.in_ok-opened.opened.items
          c.requires.kept.tree.ascend
          (rw (c.deref-3.ensures.value, c.deref-5.ensures.value) at c.in_ok-opened.ensures));
    }

pub returns-clause-opened : goal.returns-clause-opened
returns-clause-opened c = λ others are.
    let xs = c.args.table.now.entries.items in
    let gone = c.in_ok-gone.gone.items in
    let all = rw c.deref.ensures.value at c.in_ok-gone.ensures.all in
    let only = rw c.deref.ensures.value at c.in_ok-gone.ensures.only in
    told c.args.pivot xs gone others c.in_ok-opened.opened.items
    (λ n. both_ways (is_in n gone) (is_in n others) (λ h. are.all n (only n h))
    (λ h. all n (are.only n h)))
    (rw (c.deref-3.ensures.value, c.deref-5.ensures.value) at c.in_ok-opened.ensures)
