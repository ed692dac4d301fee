-- The laws hold whichever questions stay open, and none does where the count did not rise.
use Rattle.cpa_predicate.proofs.PredicateLaws.{transfer-laws, transfer-exact}
use Rattle.cpa_predicate.proofs.predicate.PredicateAnalysis.transfer.Goals as goal

pub returns-clause-laws : goal.returns-clause-laws
returns-clause-laws c =
    transfer-laws _ _ c.args.cfa.now c.args.edge c.args.elem.now c.args.precision.now _ _
    c.as_slice.ensures c.requires.edge c.requires.precision c.successors.ensures.known

pub returns-clause-exact : goal.returns-clause-exact
returns-clause-exact c =
    transfer-exact _ _ c.args.cfa.now c.args.edge c.args.elem.now c.args.precision.now _ _
    c.as_slice.ensures c.args.self.now c.self.view_is c.successors.ensures.known
