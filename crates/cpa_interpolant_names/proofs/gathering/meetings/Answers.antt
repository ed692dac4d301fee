-- One cell more.
use Rattle.std.proofs.Common.{arith}
use Rattle.cpa_interpolant_names.proofs.Turns.{one_meeting, last_meeting}
use Rattle.cpa_interpolant_names.proofs.gathering.meetings.Goals as goal

pub loop-i-preserved : goal.loop-i-preserved
loop-i-preserved c =
    let l = c.loop-i in
    one_meeting c.args.form.now c.args.before.now c.args.behind.now c.args.cells.now l.i _
    l.found.items _ _ (omega arith) c.in_ok-push_meeting.ensures l.invariant

pub returns : goal.returns
returns c =
    let l = c.loop-i in
    last_meeting c.args.form.now c.args.before.now c.args.behind.now c.args.cells.now l.i
    l.found.items _ (omega arith) l.invariant
