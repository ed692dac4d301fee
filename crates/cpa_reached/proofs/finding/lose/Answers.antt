use Rattle.std.proofs.Common.{◌≡◌, ℕ, List, Some, slice_get, get_or, ap, ◌∙◌, subst}
use Rattle.std.proofs.Math.ListN.{set}
use Rattle.cpa_model.specs.Ascending.{AreAscending}
use Rattle.cpa_iface.specs.declared.entries.Entry.{Entry}
use Rattle.cpa_reached.specs.Entries.{numbers}
use Rattle.cpa_reached.proofs.Keying.{gained_numbers}
use Rattle.cpa_reached.proofs.Keys.{taken_back}
use Rattle.cpa_reached.proofs.finding.lose.Goals as goal

pub returns-clause-items : goal.returns-clause-items
returns-clause-items c = λ xs by is.
    let there = c.index_mut.result.now in
    let rest = c.pop.new.self in
    let at = rw c.deref.ensures.value at c.place-at.ensures.at in
    let same : numbers c.args.entries.now.items ≡ numbers xs =
    ap (λ (ys : List Entry). numbers ys) is
    ∙ gained_numbers c.args.number by xs in
    ap (λ (ys : List Entry). set ys c.place-at.result (record there { uses = rest })) is
    ∙ taken_back xs c.args.number by c.place-at.result there there rest
    (subst (λ (ns : List ℕ). AreAscending ns) same c.requires.ascend)
    (subst (λ (ns : List ℕ). slice_get ns c.place-at.result ≡ Some c.args.number) same at)
    (c.index_mut.ensures.value ∙ ap (λ (ys : List Entry). get_or ys c.place-at.result there) is)
    c.pop.ensures
