use Rattle.std.proofs.Common.{rules, ap, sym, ◌∙◌}
use Rattle.cpa_reached.specs.Indexes.{items_of}
use Rattle.cpa_reached.specs.Tables.{but}
use Rattle.cpa_reached.proofs.Entering.{without_it, without_none}
use Rattle.cpa_reached.proofs.index.leave.Goals as goal

pub returns-in-Some : goal.returns-in-Some
returns-in-Some c =
    let w = c.drop_number.new.numbers in
    without_it c.args.index.now.entries (c.get_mut.follows.lender w).entries c.args.key.now.elems w
    c.args.number ((c.get_mut.follows.holds w).3 (search rules)).0
    (c.drop_number.ensures ∙ ap (λ o. but c.args.number (items_of o)) c.in-Some.ensures.value)

pub returns-in-None : goal.returns-in-None
returns-in-None c =
    without_none c.args.index.now.entries c.get_mut.follows.lender-at-none.entries
    c.args.key.now.elems c.args.number (search rules) (sym c.in-None.ensures.value)
