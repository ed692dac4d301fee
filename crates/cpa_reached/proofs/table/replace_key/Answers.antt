use Rattle.std.proofs.Common.{rules, ◌≡◌}
use Rattle.cpa_reached_key.specs.Rows.{picked}
use Rattle.cpa_reached.proofs.Keying.{indexed_replaced, indexed_same}
use Rattle.cpa_reached.proofs.Views.{on_err}
use Rattle.cpa_reached.proofs.table.replace_key.Goals as goal

pub returns-in_err-enter-clause-err : goal.returns-in_err-enter-clause-err
returns-in_err-enter-clause-err c =
    let t = c.args.table.now in
    on_err c.from_residual-in_err-enter.result
    (indexed_same t.places t.entries.items t.index.entries c.enter.new.index.entries
    c.requires.indexed (λ row. c.in_err-enter.ensures.err row))

pub returns-clause-ok : goal.returns-clause-ok
returns-clause-ok c =
    let t = c.args.table.now in
    let entry = c.entry.result.now in
    let old_row : c.in_ok-old_key.old_key.elems ≡ picked t.places entry.elems = search rules in
    let new_row : c.in_ok-key.key.elems ≡ picked t.places c.args.elems.items = search rules in
    indexed_replaced t.places t.entries.items c.args.old c.args.number c.args.elems.items
    c.in_ok-old_key.old_key.elems c.in_ok-key.key.elems entry t.index.entries
    c.enter.new.index.entries c.leave.new.index.entries c.requires.kept.tree.ascend
    c.requires.apart (rw c.deref.ensures.value at c.entry.ensures.is_in) c.entry.ensures.number
    old_row new_row c.requires.indexed (λ row. c.in_ok-enter.ensures.ok row)
    (λ row. c.leave.ensures row)
