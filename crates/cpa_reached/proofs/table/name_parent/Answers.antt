use Rattle.std.proofs.Common.{◌≡◌, ℕ, true, subst, sym, ap, ◌∙◌}
use Rattle.std.proofs.lemmas.Option.{same_Some, none-some}
use Rattle.std.proofs.lemmas.Result.{on_ok_weaker}
use Rattle.cpa_reached.specs.Kept.{is_named_by}
use Rattle.cpa_reached.proofs.Climbing.{parent_live}
use Rattle.cpa_reached.proofs.table.name_parent.Goals as goal

pub list_namer-requires-clause-live : goal.list_namer-requires-clause-live
list_namer-requires-clause-live c =
    let t = c.args.table.now in
    let live = c.requires.live in
    let parents = rw c.deref.ensures.value at c.in-Some.ensures in
    parent_live t.entries.items t.links.items c.args.number c.in-Some.pair.0 c.in-Some.pair.1
    c.requires.kept.tree live (sym (parents live.entry live.is_in live.is))

pub returns-in-Some-clause-named : goal.returns-in-Some-clause-named
returns-in-Some-clause-named c = λ e p edge there number has.
    let parents = rw c.deref.ensures.value at c.in-Some.ensures in
    let same : c.in-Some.pair.0 ≡ p =
    ap (λ (q : ℕ × ℕ). q.0) (same_Some c.in-Some.pair (p, edge) (parents e there number ∙ has)) in
    on_ok_weaker _
    (λ (is : is_named_by c.list_namer.new.table.links.items c.in-Some.pair.0 c.args.next ≡ true).
    subst (λ (q : ℕ). is_named_by c.list_namer.new.table.links.items q c.args.next ≡ true) same is)
    c.list_namer.ensures.named

pub returns-in-None-clause-named : goal.returns-in-None-clause-named
returns-in-None-clause-named c = λ e p edge there number has.
    let parents = rw c.deref.ensures.value at c.in-None.ensures in
    absurd (none-some (p, edge) (parents e there number ∙ has))
