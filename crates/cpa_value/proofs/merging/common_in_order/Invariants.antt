-- The common facts so far, and behind them those of the facts that are left.
use Rattle.std.proofs.Common.{◌≡◌, ◌++◌}
use Rattle.std.specs.List.{filter}
use Rattle.cpa_iface.specs.Common.{stands_in}
use Rattle.cpa_value.proofs.merging.common_in_order.Given as goal

abbrev pub invariant-loop-fact : goal.invariant-loop-fact
invariant-loop-fact l =
    l.facts ++ filter (stands_in l.new) l.fact-iterator ≡ filter (stands_in l.new) l.old.facts
