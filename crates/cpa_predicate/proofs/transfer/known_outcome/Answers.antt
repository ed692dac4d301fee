-- The outcome of the skip is that of the step.
use Rattle.std.proofs.Common.{refl}
use Rattle.cpa_predicate.proofs.transfer.known_outcome.Goals as goal

pub returns-in-Some : goal.returns-in-Some
returns-in-Some c =
    let same = c.acts_as_skip-as_skip.ensures c.if-as_skip.true c.args.cfa.now c.args.elem.now
    c.args.edge.now c.skip_along-skip.result c.requires.automaton c.requires.act refl
    c.skip_along-skip.ensures c.in-Some.outcome.now in same.1 c.in-Some.ensures
