-- What is left of the facts gives all of them.
use Rattle.std.specs.Prelude.{◌≡◌}
use Rattle.cpa_recheck_bounds.specs.Exact.{lows_of}
use Rattle.cpa_recheck_bounds.proofs.Said.{GivesAll}
use Rattle.cpa_recheck_bounds.proofs.saying.says_each.Given as goal

abbrev pub invariant-loop-fact : goal.invariant-loop-fact
invariant-loop-fact l =
    l.lows.values ≡ lows_of l.all.each → GivesAll l.all.each l.elem l.other.facts l.fact-iterator
