-- The store at which the search ends lacks the truth.
use Rattle.cpa_predicate.proofs.WitnessLemmas.{lacks_here, clash}
use Rattle.cpa_predicate.proofs.witnesses.some_lacks.Goals as goal

pub returns-then-not-has_truth : goal.returns-then-not-has_truth
returns-then-not-has_truth c = λ _.
    lacks_here c.args.p.now c.args.holds c.args.stores.now c.loop-store.store-index
    c.store-item.result c.loop-store-test.true c.store-item.is
    (λ has. clash c.has_truth.result c.if-not-has_truth.true (c.has_truth.ensures.1 has))
