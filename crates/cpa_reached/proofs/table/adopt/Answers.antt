use Rattle.std.proofs.Common.{◌≡◌, ℕ, true, List, refl, sym, subst}
use Rattle.cpa_model.specs.Ascending.{AreAscending}
use Rattle.cpa_reached.specs.Members.{is_in}
use Rattle.cpa_reached.specs.Calls.{at_number, gains}
use Rattle.cpa_reached.specs.lemmas.MemberLaws.{in_live, live_in}
use Rattle.cpa_reached.proofs.Keying.{gained_numbers, indexed_at, indexed_more, indexed_same}
use Rattle.cpa_reached.proofs.table.adopt.Goals as goal

pub lose-requires-clause-ascend : goal.lose-requires-clause-ascend
lose-requires-clause-ascend c =
    let t = c.args.table.now in
    rw c.in_ok-gain.ensures.ok
    (subst (λ (ns : List ℕ). AreAscending ns)
    (sym (gained_numbers c.args.parent c.args.number t.entries.items)) c.requires.ascend)

pub lose-requires-clause-live : goal.lose-requires-clause-live
lose-requires-clause-live c =
    let t = c.args.table.now in
    rw c.in_ok-gain.ensures.ok
    (in_live (at_number c.args.parent (gains c.args.number) t.entries.items) c.args.parent
    (subst (λ (ns : List ℕ). is_in c.args.parent ns ≡ true)
    (sym (gained_numbers c.args.parent c.args.number t.entries.items))
    (live_in t.entries.items c.args.parent c.requires.parent)))

pub returns-in-Ok-clause-indexed : goal.returns-in-Ok-clause-indexed
returns-in-Ok-clause-indexed c = λ e number key.
    let t = c.args.table.now in
    let n = c.args.number in
    rw c.in_ok-gain.ensures.ok
    (indexed_more t.places (at_number c.args.parent (gains n) t.entries.items) e t.index.entries
    c.enter.new.index.entries c.args.key.elems n
    (indexed_at t.places t.entries.items t.index.entries c.args.parent (gains n) (λ x. refl)
    (λ x. refl) c.requires.indexed)
    (sym key) (sym number) (λ row. c.in-Ok.ensures.ok row))

pub returns-in-Err-clause-err : goal.returns-in-Err-clause-err
returns-in-Err-clause-err c =
    c.lose.ensures.items c.args.table.now.entries.items c.args.number c.in_ok-gain.ensures.ok

pub returns-in-Err-clause-err_indexed : goal.returns-in-Err-clause-err_indexed
returns-in-Err-clause-err_indexed c =
    let t = c.args.table.now in
    rw (c.lose.ensures.items t.entries.items c.args.number c.in_ok-gain.ensures.ok)
    (indexed_same t.places t.entries.items t.index.entries c.enter.new.index.entries
    c.requires.indexed (λ row. c.in-Err.ensures.err row))
