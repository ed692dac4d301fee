use Rattle.std.proofs.Common.{rules, ap, ◌∙◌, ◌++◌, ◌∷◌, [], cond, Some}
use Rattle.cpa_reached_key.specs.Rows.{same_row}
use Rattle.cpa_reached.specs.Indexes.{items_of}
use Rattle.cpa_reached.proofs.Entering.{entered, unchanged, at}
use Rattle.cpa_reached.proofs.Views.{on_err}
use Rattle.cpa_reached.proofs.index.enter.Goals as goal

pub returns-in_err-push-in-Some-clause-err : goal.returns-in_err-push-in-Some-clause-err
returns-in_err-push-in-Some-clause-err c =
    let w = c.push.new.self in
    λ row. on_err c.from_residual.result
    (unchanged c.args.index.now.entries (c.get_mut.follows.lender w).entries c.args.key.elems w
    ((c.get_mut.follows.holds w).3 (search rules)).0
    ((c.in_err-push-in-Some.ensures).items ∙ ap items_of c.in-Some.ensures.value) row)

pub returns-in_ok-push-in-Some-clause-ok : goal.returns-in_ok-push-in-Some-clause-ok
returns-in_ok-push-in-Some-clause-ok c =
    let w = c.push.new.self in
    entered c.args.index.now.entries (c.get_mut.follows.lender w).entries c.args.key.elems w
    c.args.number ((c.get_mut.follows.holds w).3 (search rules)).0
    (c.in_ok-push-in-Some.ensures.items
    ∙ ap (λ o. items_of o ++ c.args.number ∷ []) c.in-Some.ensures.value)

pub returns-in_ok-insert-in-None-clause-ok : goal.returns-in_ok-insert-in-None-clause-ok
returns-in_ok-insert-in-None-clause-ok c =
    let w = c.push-in-None.new.self in
    entered c.args.index.now.entries c.insert.new.self.entries c.args.key.elems w
    c.args.number
    (λ q. c.in_ok-insert-in-None.ensures.updates.0 q
    ∙ ap (λ es. cond (same_row c.args.key.elems q.elems) (Some w) (at q.elems es))
    (search rules))
    (c.in_ok-push-in-None.ensures.items
    ∙ ap (λ ns. ns ++ c.args.number ∷ []) c.new-numbers.ensures.items
    ∙ ap (λ o. items_of o ++ c.args.number ∷ []) c.in-None.ensures.value)
