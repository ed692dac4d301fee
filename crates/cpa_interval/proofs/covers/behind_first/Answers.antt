use Rattle.std.proofs.Common.{arith, sym, ◌∙◌}
use Rattle.cpa_iface.specs.lemmas.PlaceLaws.{found_at, passed_over}
use Rattle.cpa_interval.specs.Covers.{says}
use Rattle.cpa_interval.proofs.covers.behind_first.Goals as goal

pub loop-place-preserved : goal.loop-place-preserved
loop-place-preserved c =
    let within = c.loop-place-test.true in
    let long = c.len-place-end.ensures in
    passed_over (says c.args.fact.now) c.args.facts.now c.loop-place.place c.is_said_at.result
    (omega (arith, within, long)) c.is_said_at.ensures c.if-is_said_at.false
    ∙ c.loop-place.invariant

pub returns-then-is_said_at-clause-said : goal.returns-then-is_said_at-clause-said
returns-then-is_said_at-clause-said c =
    let within = c.loop-place-test.true in
    let long = c.len-place-end.ensures in
    sym (sym c.loop-place.invariant
    ∙ found_at (says c.args.fact.now) c.args.facts.now c.loop-place.place c.is_said_at.result
    (omega (arith, within, long)) c.is_said_at.ensures c.if-is_said_at.true)
