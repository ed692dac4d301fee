-- What is known is right of each step that is the same in all that is kept.
use Rattle.cpa_predicate.proofs.KnownLemmas.{known_is}
use Rattle.cpa_predicate.proofs.known.Known.outcome_of.Goals as goal

pub returns-then-is_own : goal.returns-then-is_own
returns-then-is_own c =
    let found = c.is_of-is_own.ensures c.if-is_own.true in
    known_is c.args.self.now.types c.args.self.now.act c.args.self.now.truths
    c.args.self.now.preds c.args.self.now.outcome c.args.self.now.is_right c.args.cfa.now
    c.args.edge.now c.args.elem.now c.args.preds.now found.0 found.1 found.2 found.3
