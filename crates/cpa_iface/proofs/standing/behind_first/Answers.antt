use Rattle.std.proofs.Common.{arith, sym, ◌∙◌}
use Rattle.cpa_model.specs.Standing.{same_fact}
use Rattle.cpa_iface.specs.lemmas.PlaceLaws.{found_at, passed_over}
use Rattle.cpa_iface.proofs.standing.behind_first.Goals as goal

pub loop-place-preserved : goal.loop-place-preserved
loop-place-preserved c =
    let within = c.loop-place-test.true in
    let long = c.len-place-end.ensures in
    passed_over (λ own. same_fact own c.args.fact.now) c.args.facts.now c.loop-place.place
    c.stands_at.result (omega (arith, within, long)) c.stands_at.ensures c.if-stands_at.false
    ∙ c.loop-place.invariant

pub returns-then-stands_at-clause-stands : goal.returns-then-stands_at-clause-stands
returns-then-stands_at-clause-stands c =
    let within = c.loop-place-test.true in
    let long = c.len-place-end.ensures in
    sym (sym c.loop-place.invariant
    ∙ found_at (λ own. same_fact own c.args.fact.now) c.args.facts.now c.loop-place.place
    c.stands_at.result (omega (arith, within, long)) c.stands_at.ensures c.if-stands_at.true)
