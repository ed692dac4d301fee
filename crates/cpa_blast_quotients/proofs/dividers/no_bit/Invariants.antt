use Rattle.std.proofs.Common.{◌≡◌, ◌≤◌, length, drop}
use Rattle.cpa_blast_gates.specs.Nets.{built}
use Rattle.cpa_blast_quotients.specs.Dividers.{no_bit}
use Rattle.cpa_blast_quotients.proofs.dividers.no_bit.Given as goal

abbrev pub invariant-loop-place : goal.invariant-loop-place
invariant-loop-place l = record {
  so_far : built l.net l.none ≡ no_bit l.initial.net (drop l.place l.xs);
  within : l.place ≤ length l.xs;
}

abbrev pub decreases-loop-place : goal.decreases-loop-place
decreases-loop-place l = l.place
