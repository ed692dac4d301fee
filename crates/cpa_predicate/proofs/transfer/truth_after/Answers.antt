-- A truth that stands needs no question, and neither does one that the element says of what the
-- predicate is before the edge.
use Rattle.std.proofs.Common.{refl, subst}
use Rattle.std.specs.Prelude.{Option, Bool, IfSome}
use Rattle.cpa_predicate.specs.Steps.{HasAfter}
use Rattle.cpa_predicate.proofs.StandingLemmas.{stands_after}
use Rattle.cpa_predicate.proofs.transfer.truth_after.Goals as goal

pub returns-in-Some-clause-truth : goal.returns-in-Some-clause-truth
returns-in-Some-clause-truth c =
    stands_after c.args.cfa.now c.requires.step.automaton c.args.p.now c.args.elem.now
    c.args.edge.now c.in-Some.holds c.value_depends_on_what_is_read.ensures c.requires.step.act
    c.in-Some.ensures.said c.in-Some.ensures.unread

pub returns-in-Some-before-clause-truth : goal.returns-in-Some-before-clause-truth
returns-in-Some-before-clause-truth c =
    let cfa = c.args.cfa.now in
    let g = c.args.edge.now in
    subst (λ (o : Option Bool). IfSome o (HasAfter cfa c.args.elem.now g c.args.p.now))
    c.in-Some-before.is
    (c.in_ok-before-in-None.ensures cfa g c.requires.step.automaton c.requires.step.act refl)
