-- Tests that are asked as a whole.
use Rattle.std.proofs.Common.{◌≡◌, List, subst, sym}
use Rattle.std.specs.Prelude.{Option, None, Some, IfOk, if◌then◌else◌}
use Rattle.cpa_interval_bounds.specs.declared.bounds.Bounds.{Bounds}
use Rattle.cpa_interval_acts.specs.lemmas.AssumeLemmas.{and_decided, or_decided, assumed_whole}
use Rattle.cpa_interval_acts.specs.lemmas.AssumeLemmas.{plain_whole}
use Rattle.cpa_interval_acts.proofs.cuts.+assuming.Goals as goal

pub returns-else-holds-clause-each : goal.returns-else-holds-clause-each
returns-else-holds-clause-each t c =
    subst (λ (left : Option (List Bounds)). IfOk c.decide.result (λ is.
    (if is then Some c.decide.new.all.each else None) ≡ left))
    (and_decided c.args.test.now _ _ c.args.holds c.args.all.now.each c.in-And.is
    c.if-holds.false)
    c.decide.ensures.each

pub returns-then-holds-2-clause-each : goal.returns-then-holds-2-clause-each
returns-then-holds-2-clause-each t c =
    subst (λ (left : Option (List Bounds)). IfOk c.decide-then-holds-2.result (λ is.
    (if is then Some c.decide-then-holds-2.new.all.each else None) ≡ left))
    (or_decided c.args.test.now _ _ c.args.holds c.args.all.now.each c.in-Or.is
    c.if-holds-2.true)
    c.decide-then-holds-2.ensures.each

pub returns-in_default-clause-each : goal.returns-in_default-clause-each
returns-in_default-clause-each t c =
    subst (λ (left : Option (List Bounds)). IfOk c.decide-in_default.result (λ is.
    (if is then Some c.decide-in_default.new.all.each else None) ≡ left))
    (sym (assumed_whole c.args.test.now c.args.holds c.args.all.now.each
    (plain_whole c.args.test.now c.in_default.not-And c.in_default.not-Or
    c.in_default.not-Not)))
    c.decide-in_default.ensures.each
