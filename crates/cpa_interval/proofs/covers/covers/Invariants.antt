-- What is left is said exactly where all is.
use Rattle.std.proofs.Common.{◌≡◌, ◌≤◌, length}
use Rattle.std.specs.List.{list_all}
use Rattle.cpa_interval.specs.Covers.{has_covered}
use Rattle.cpa_interval.proofs.covers.covers.Given as goal

abbrev pub invariant-loop-fact : goal.invariant-loop-fact
invariant-loop-fact l =
    (list_all (has_covered l.elem.facts) l.fact-iterator
    ≡ list_all (has_covered l.elem.facts) l.other.facts) × (l.next ≤ length l.elem.facts)
