use Rattle.std.proofs.Common.{List, length, sym, subst, ◌∙◌}
use Rattle.cpa_composite.specs.Components.{Component, AreElems, ArePrecisions}
use Rattle.cases_turns.proofs.composites.asking.push_successors.Goals as goal

pub push_once-requires-clause-elems : goal.push_once-requires-clause-elems
push_once-requires-clause-elems g c =
    subst (λ (cs : List Component). AreElems c.args.cfa.now (length cs) c.args.elems.now)
    (sym c.loop-time.invariant) c.requires.elems

pub push_once-requires-clause-precisions : goal.push_once-requires-clause-precisions
push_once-requires-clause-precisions g c =
    subst (λ (cs : List Component). ArePrecisions c.args.cfa.now (length cs) c.args.precisions.now)
    (sym c.loop-time.invariant) c.requires.precisions

pub loop-time-preserved : goal.loop-time-preserved
loop-time-preserved g c = c.push_once.ensures.kept ∙ c.loop-time.invariant
