use Rattle.std.proofs.Common.{◌≡◌, length, drop}
use Rattle.cpa_blast_arithmetic.specs.Shifts.{stages}
use Rattle.cpa_blast_arithmetic.proofs.shifts.stages.Given as goal

abbrev pub invariant-loop-place : goal.invariant-loop-place
invariant-loop-place l = record {
  so_far : stages l.direction l.filling l.net l.place l.word (drop l.place l.amount)
      ≡ stages l.direction l.filling l.initial.net 0 l.xs l.amount;
  long : length l.word ≡ length l.xs;
}
