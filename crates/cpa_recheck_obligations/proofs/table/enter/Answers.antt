use Rattle.std.proofs.Common.{rules, ap, ◌∙◌, ◌++◌, ◌∷◌, [], cond, Some}
use Rattle.cpa_recheck_obligations.specs.Spots.{same_spot}
use Rattle.cpa_recheck_obligations.specs.Tables.{items_of}
use Rattle.cpa_recheck_obligations.proofs.Entering.{entered, at}
use Rattle.cpa_recheck_obligations.proofs.table.enter.Goals as goal

pub returns-in_ok-push-in-Some : goal.returns-in_ok-push-in-Some
returns-in_ok-push-in-Some c =
    let w = c.push.new.self in
    entered c.args.table.now.entries (c.get_mut.follows.lender w).entries c.args.spot w
    c.args.number ((c.get_mut.follows.holds w).3 (search rules)).0
    (c.in_ok-push-in-Some.ensures.items
    ∙ ap (λ o. items_of o ++ c.args.number ∷ []) c.in-Some.ensures.value)

pub returns-in_ok-insert-in-None : goal.returns-in_ok-insert-in-None
returns-in_ok-insert-in-None c =
    let w = c.push-in-None.new.self in
    entered c.args.table.now.entries c.insert.new.self.entries c.args.spot w
    c.args.number
    (λ q. c.in_ok-insert-in-None.ensures.updates.0 q
    ∙ ap (λ es. cond (same_spot c.args.spot q) (Some w) (at q es))
    (search rules))
    (c.in_ok-push-in-None.ensures.items
    ∙ ap (λ ns. ns ++ c.args.number ∷ []) c.new-numbers.ensures.items
    ∙ ap (λ o. items_of o ++ c.args.number ∷ []) c.in-None.ensures.value)
