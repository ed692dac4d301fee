use Rattle.std.specs.Prelude.{true, false}
use Rattle.cpa_predicate.proofs.BudgetLemmas.{both_asked, none_found}
use Rattle.cpa_predicate.proofs.asking.found_truth.Goals as goal

pub returns-in_err-fails-clause-spends : goal.returns-in_err-fails-clause-spends
returns-in_err-fails-clause-spends c =
    both_asked c.args.asker.now c.is_always.new.asker c.is_always-2.new.asker
    c.args.step.now c.args.p.now c.is_always.ensures.spends c.is_always-2.ensures.spends

pub returns-then-fails-clause-spends : goal.returns-then-fails-clause-spends
returns-then-fails-clause-spends c =
    both_asked c.args.asker.now c.is_always.new.asker c.is_always-2.new.asker
    c.args.step.now c.args.p.now c.is_always.ensures.spends c.is_always-2.ensures.spends

pub returns-else-fails-clause-found : goal.returns-else-fails-clause-found
returns-else-fails-clause-found c =
    none_found c.args.asker.now c.is_always.new.asker c.is_always-2.new.asker _ _
    c.args.step.now c.args.p.now c.is_always.ensures.spends c.is_always-2.ensures.spends
    (c.in_ok-holds.ensures.no c.if-holds.false) (c.in_ok-fails.ensures.no c.if-fails.false)

pub returns-else-fails-clause-spends : goal.returns-else-fails-clause-spends
returns-else-fails-clause-spends c =
    both_asked c.args.asker.now c.is_always.new.asker c.is_always-2.new.asker
    c.args.step.now c.args.p.now c.is_always.ensures.spends c.is_always-2.ensures.spends

pub is_always-requires-clause-asked : goal.is_always-requires-clause-asked
is_always-requires-clause-asked c = c.requires.asked true

pub is_always-requires-2-clause-asked : goal.is_always-requires-2-clause-asked
is_always-requires-2-clause-asked c = c.requires.asked false
