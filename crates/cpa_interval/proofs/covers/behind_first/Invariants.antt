-- One of what is left says it exactly where one from the first place on does.
use Rattle.std.proofs.Common.{◌≡◌, drop}
use Rattle.cpa_interval.specs.Covers.{has_covered}
use Rattle.cpa_interval.proofs.covers.behind_first.Given as goal

abbrev pub invariant-loop-place : goal.invariant-loop-place
invariant-loop-place l =
    has_covered (drop l.place l.facts) l.fact ≡ has_covered (drop l.from l.facts) l.fact
