-- The common facts so far, and behind them those of the facts that are left.
use Rattle.std.proofs.Common.{◌≡◌, ◌++◌, ◌≤◌, length}
use Rattle.std.specs.List.{filter}
use Rattle.cpa_iface.specs.Common.{stands_in}
use Rattle.cpa_iface.proofs.merging.common_facts.Given as goal

abbrev pub invariant-loop-fact : goal.invariant-loop-fact
invariant-loop-fact l =
    (l.facts ++ filter (stands_in l.new.facts) l.fact-iterator
    ≡ filter (stands_in l.new.facts) l.old.facts) × (l.next ≤ length l.new.facts)
