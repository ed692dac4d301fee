use Rattle.cpa_recheck_bounds.proofs.Said.{said_here}
use Rattle.cpa_recheck_bounds.proofs.saying.are_said.Goals as goal

pub returns-then-says_all : goal.returns-then-says_all
returns-then-says_all c = λ is are.
    said_here c.args.all.now.each c.args.elem.now c.args.entries.now c.args.numbers.now
    c.loop-place.place c.number_at-number.result c.number_at-number.ensures
    (c.says_all.ensures c.if-says_all.true are)
