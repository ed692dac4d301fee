-- One more variable.
use Rattle.cpa_blast.proofs.Turns.{one_variable, last_variable}
use Rattle.cpa_blast.proofs.places.push_variables.Goals as goal

pub loop-i-preserved : goal.loop-i-preserved
loop-i-preserved c =
    let l = c.loop-i in
    one_variable c.args.first c.args.count l.i c.in_ok-literal.literal l.word c.push.new.self _
    c.loop-i-test.true c.in_ok-literal.ensures c.in_ok-push.ensures.ok l.invariant

pub returns : goal.returns
returns c =
    let l = c.loop-i in
    last_variable c.args.first c.args.count l.i l.word _ c.loop-i-test.false l.invariant
