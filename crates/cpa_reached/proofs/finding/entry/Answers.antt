use Rattle.std.proofs.Common.{◌≡◌, sym, ap, ◌∙◌, subst}
use Rattle.cpa_iface.specs.declared.entries.Entry.{Entry}
use Rattle.cpa_reached.specs.Members.{IsIn}
use Rattle.cpa_reached.proofs.Keys.{one_at}
use Rattle.cpa_reached.proofs.finding.entry.Goals as goal

pub returns-clause-is_in : goal.returns-clause-is_in
returns-clause-is_in c =
    let l = c.requires.live in
    let x = c.index-entries-place.result in
    let is : x ≡ l.entry =
    c.index-entries-place.is
    ∙ one_at c.args.entries.now c.place.result c.args.number x l.entry c.requires.ascend
    c.place.ensures.at l.is_in l.is in
    subst (λ (y : Entry). IsIn y c.args.entries.now) (sym is) l.is_in

pub returns-clause-number : goal.returns-clause-number
returns-clause-number c =
    let l = c.requires.live in
    let x = c.index-entries-place.result in
    let is : x ≡ l.entry =
    c.index-entries-place.is
    ∙ one_at c.args.entries.now c.place.result c.args.number x l.entry c.requires.ascend
    c.place.ensures.at l.is_in l.is in
    ap (λ (y : Entry). y.number) is ∙ l.is
