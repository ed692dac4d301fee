use Rattle.std.proofs.Common.{◌≡◌, ℕ, true, Some, slice_get, List, subst, sym}
use Rattle.std.proofs.lemmas.Result.{on_ok_weaker, on_err_weaker}
use Rattle.cpa_reached.specs.Members.{is_in}
use Rattle.cpa_reached.specs.Kept.{at_link, lists}
use Rattle.cpa_reached.specs.lemmas.MemberLaws.{live_in}
use Rattle.cpa_reached.proofs.Keeping.{kept_lists}
use Rattle.cpa_reached.proofs.Tying.{now_named}
use Rattle.cpa_reached.proofs.Views.{either_way}
use Rattle.cpa_reached.proofs.table.list_namer.Goals as goal

pub returns-clause-kept : goal.returns-clause-kept
returns-clause-kept c =
    let t = c.args.table.now in
    let at = subst (λ (ns : List ℕ). slice_get ns c.place-at.result ≡ Some c.args.number)
    (sym c.requires.kept.tree.same) (rw c.deref.ensures.value at c.place-at.ensures.at) in
    either_way c.name_at.result
    (on_ok_weaker _
    (λ (is : c.name_at.new.links.items ≡ at_link c.args.number (lists c.args.by) t.links.items).
    rw is (kept_lists c.args.number c.args.by t.entries.items t.links.items t.waiting.items t.next
    c.requires.kept))
    (c.name_at.ensures.ok c.args.number at))
    (on_err_weaker _ (λ (is : c.name_at.new.links.items ≡ t.links.items). rw is c.requires.kept)
    c.name_at.ensures.err)

pub returns-clause-named : goal.returns-clause-named
returns-clause-named c =
    let t = c.args.table.now in
    let at = subst (λ (ns : List ℕ). slice_get ns c.place-at.result ≡ Some c.args.number)
    (sym c.requires.kept.tree.same) (rw c.deref.ensures.value at c.place-at.ensures.at) in
    let there = subst (λ (ns : List ℕ). is_in c.args.number ns ≡ true)
    (sym c.requires.kept.tree.same) (live_in t.entries.items c.args.number c.requires.live) in
    on_ok_weaker _
    (λ (is : c.name_at.new.links.items ≡ at_link c.args.number (lists c.args.by) t.links.items).
    rw is (now_named c.args.number c.args.by t.links.items there))
    (c.name_at.ensures.ok c.args.number at)
