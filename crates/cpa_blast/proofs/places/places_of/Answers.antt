-- One more cell.
use Rattle.std.proofs.Common.{arith}
use Rattle.cpa_blast.proofs.Turns.{one_place, last_place}
use Rattle.cpa_blast.proofs.places.places_of.Goals as goal

pub loop-i-preserved : goal.loop-i-preserved
loop-i-preserved c =
    let l = c.loop-i in
    one_place c.args.cells.now c.args.marks.now l.i _ _ l.places.items c.push.new.self.items _
    (omega arith) (omega (arith, c.requires)) c.in_ok-push.ensures.items l.invariant

pub returns : goal.returns
returns c =
    let l = c.loop-i in
    last_place c.args.cells.now c.args.marks.now l.i l.places.items _ (omega arith) l.invariant
