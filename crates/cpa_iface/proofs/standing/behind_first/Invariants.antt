-- The fact stands in what is left exactly where it stands from the first place on.
use Rattle.std.proofs.Common.{◌≡◌, drop}
use Rattle.cpa_iface.specs.Common.{stands_in}
use Rattle.cpa_iface.proofs.standing.behind_first.Given as goal

abbrev pub invariant-loop-place : goal.invariant-loop-place
invariant-loop-place l =
    stands_in (drop l.place l.facts) l.fact ≡ stands_in (drop l.from l.facts) l.fact
