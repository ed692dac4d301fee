use Rattle.std.proofs.Common.{◌≡◌, ◌-◌, ◌≤◌, length, take, drop}
use Rattle.cpa_blast_gates.specs.Nets.{built}
use Rattle.cpa_blast_arithmetic.specs.Products.{product}
use Rattle.cpa_blast_arithmetic.proofs.products.product.Given as goal

abbrev pub invariant-loop-place : goal.invariant-loop-place
invariant-loop-place l = record {
  so_far : built l.net l.above
      ≡ product l.initial.net (take (length l.xs - l.place) l.xs) (drop l.place l.ys);
  long : length l.above ≡ length l.xs - l.place;
  within : l.place ≤ length l.ys;
}

abbrev pub decreases-loop-place : goal.decreases-loop-place
decreases-loop-place l = l.place
