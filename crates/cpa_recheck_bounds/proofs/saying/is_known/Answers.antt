use Rattle.cpa_recheck_bounds.proofs.Said.{known_truth}
use Rattle.cpa_recheck_bounds.proofs.saying.is_known.Goals as goal

pub returns-then-are_fixed : goal.returns-then-are_fixed
returns-then-are_fixed c = λ store is are lie.
    known_truth c.args.e.now c.args.holds c.args.all.now.each c.args.lows.now.values store
    c.value_depends_on_what_is_read.ensures (c.are_fixed.ensures c.if-are_fixed.true)
    (c.has_truth.ensures.0 is) are lie
