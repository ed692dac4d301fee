-- The outcome of the step is that of the skip.
use Rattle.std.proofs.Common.{refl}
use Rattle.cpa_predicate.proofs.transfer.keep_outcome.Goals as goal

pub keep_outcome-requires : goal.keep_outcome-requires
keep_outcome-requires c =
    let same = c.acts_as_skip-as_skip.ensures c.if-as_skip.true c.args.cfa.now c.args.elem.now
    c.args.edge.now c.skip_along-skip.result c.requires.automaton c.requires.act refl
    c.skip_along-skip.ensures c.args.outcome.now in same.0 c.requires.outcome
