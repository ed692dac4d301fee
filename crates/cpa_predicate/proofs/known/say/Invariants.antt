-- All truths are said where those that are left are.
use Rattle.std.proofs.Common.{◌≡◌}
use Rattle.cpa_predicate.specs.Known.{told}
use Rattle.cpa_predicate.proofs.known.say.Given as goal

abbrev pub invariant-loop-fact : goal.invariant-loop-fact
invariant-loop-fact l =
    told l.fact-iterator ≡ l.rest → told l.facts ≡ l.truths
