-- One cell more.
use Rattle.std.proofs.Common.{◌∙◌, arith}
use Rattle.cpa_edgeform.proofs.Turns.{one_copied, all_copied}
use Rattle.cpa_edgeform.proofs.settling.copied.Goals as goal

pub loop-i-preserved : goal.loop-i-preserved
loop-i-preserved c =
    let l = c.loop-i in
    one_copied c.args.marks.now c.args.places.now l.i _ _ c.in_ok-place.place l.draft
    c.copied_place.new.draft l.made c.push.new.self (omega (arith, c.requires)) (omega arith)
    c.in_ok-place.ensures c.in_ok-push.ensures.ok
    ∙ l.invariant

pub returns : goal.returns
returns c =
    let l = c.loop-i in
    all_copied c.args.marks.now c.args.places.now l.i l.draft l.made (omega arith) ∙ l.invariant
