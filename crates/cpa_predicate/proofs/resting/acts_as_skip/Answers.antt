-- It leads on from each store and leaves the predicates.
use Rattle.cpa_predicate.proofs.RestingLemmas.{as_skip}
use Rattle.cpa_predicate.proofs.resting.acts_as_skip.Goals as goal

pub returns-then-leaves_all : goal.returns-then-leaves_all
returns-then-leaves_all c = λ leads.
    as_skip c.args.act.now c.args.preds.now (c.always_leads_on.ensures leads)
    (c.leaves_all.ensures c.if-leaves_all.true)
