-- One more place.
use Rattle.std.proofs.Common.{◌∙◌, arith}
use Rattle.cpa_blast.proofs.Turns.{one_next, last_next}
use Rattle.cpa_blast.proofs.places.with_bits.Goals as goal

pub loop-i-preserved : goal.loop-i-preserved
loop-i-preserved c =
    let l = c.loop-i in
    one_next c.args.reading c.args.places.now l.i _ c.in_ok-place.place l.net c.next_place.new.net
    l.made.items c.push.new.self.items (omega arith) c.in_ok-place.ensures
    c.in_ok-push.ensures.items
    ∙ l.invariant

pub returns : goal.returns
returns c =
    let l = c.loop-i in
    last_next c.args.reading c.args.places.now l.i l.net l.made.items (omega arith) ∙ l.invariant
