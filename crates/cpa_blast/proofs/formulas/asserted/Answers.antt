-- One more wanted expression.
use Rattle.std.proofs.Common.{◌∙◌}
use Rattle.cpa_blast.proofs.Turns.{one_wanted, last_wanted}
use Rattle.cpa_blast.proofs.formulas.asserted.Goals as goal

pub loop-one-preserved : goal.loop-one-preserved
loop-one-preserved c =
    let l = c.loop-one in
    one_wanted c.args.cells.now c.args.wanted.now l.one-index c.one-item.result c.in_ok-told.told
    l.net c.one_told.new.net l.literals c.push.new.self c.push-in-loop-one.new.self
    c.loop-one-test.true c.one-item.is c.in_ok-told.ensures c.in_ok-push.ensures.ok
    c.in_ok-push-2.ensures.ok
    ∙ l.invariant

pub returns : goal.returns
returns c =
    let l = c.loop-one in
    last_wanted c.args.cells.now c.args.wanted.now l.one-index l.net l.literals
    c.loop-one-test.false
    ∙ l.invariant
