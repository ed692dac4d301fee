-- One more variable.
use Rattle.cpa_blast.proofs.Turns.{one_input, last_input}
use Rattle.cpa_blast.proofs.places.add_inputs.Goals as goal

pub add-preserved : goal.add-preserved
add-preserved c =
    one_input c.args.count c.add._added c.in_ok-input.field-0 c.add.net c.input.new.self _
    c.add-test.true c.in_ok-input.ensures.built c.add.invariant

pub returns : goal.returns
returns c = last_input c.args.count c.add._added c.add.net _ c.add-test.false c.add.invariant
