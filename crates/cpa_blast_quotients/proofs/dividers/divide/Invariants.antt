use Rattle.std.proofs.Common.{◌≡◌, ◌-◌, ◌≤◌, length, drop}
use Rattle.cpa_blast_gates.specs.Nets.{built}
use Rattle.cpa_blast_quotients.specs.Dividers.{divide}
use Rattle.cpa_blast_quotients.proofs.dividers.divide.Given as goal

abbrev pub invariant-loop-place : goal.invariant-loop-place
invariant-loop-place l = record {
  so_far : built l.net l.divided ≡ divide l.initial.net (drop l.place l.xs) l.divisor;
  quotient_long : length l.divided.quotient ≡ length l.xs - l.place;
  remainder_long : length l.divided.remainder ≡ length l.xs - l.place;
  within : l.place ≤ length l.xs;
}

abbrev pub decreases-loop-place : goal.decreases-loop-place
decreases-loop-place l = l.place
