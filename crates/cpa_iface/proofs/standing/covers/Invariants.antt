-- What is left stands there exactly where all do.
use Rattle.std.proofs.Common.{◌≡◌, ◌≤◌, length}
use Rattle.std.specs.List.{list_all}
use Rattle.cpa_iface.specs.Common.{stands_in}
use Rattle.cpa_iface.proofs.standing.covers.Given as goal

abbrev pub invariant-loop-fact : goal.invariant-loop-fact
invariant-loop-fact l =
    (list_all (stands_in l.elem.facts) l.fact-iterator
    ≡ list_all (stands_in l.elem.facts) l.other.facts) × (l.next ≤ length l.elem.facts)
