-- What may follow all is what may follow what is left.
use Rattle.std.proofs.Common.{◌≡◌, drop}
use Rattle.cpa_reached.specs.Marks.{past_all}
use Rattle.cpa_reached.proofs.marks.past_each.Given as goal

abbrev pub invariant-loop-fact : goal.invariant-loop-fact
invariant-loop-fact l =
    past_all l.next (drop l.fact-index l.facts) ≡ past_all l.least l.facts
