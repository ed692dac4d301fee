-- The hull of ends that stop where 128 bits end.
use Rattle.std.proofs.Common.{◌*ℤ◌, FitsSigned, rules}
use Rattle.std.specs.Int.{w128}
use Rattle.std.proofs.lemmas.Int.{to_z-of_z}
use Rattle.cpa_interval_bounds.specs.lemmas.Saturated.{ends_saturated}
use Rattle.cpa_interval_bounds.proofs.arithmetic.product.Goals as goal

pub returns : goal.returns
returns c =
    let a = c.args.a in
    let b = c.args.b in
    let a_lo : FitsSigned w128 a.lo = search rules in
    let a_hi : FitsSigned w128 a.hi = search rules in
    let b_lo : FitsSigned w128 b.lo = search rules in
    let b_hi : FitsSigned w128 b.hi = search rules in
    ends_saturated ◌*ℤ◌ a b c.times.result c.times-2.result c.times-3.result
    c.times-4.result c.hull-low.result c.hull-high.result c.hull.result
    (simp to_z-of_z at c.times.ensures) (simp to_z-of_z at c.times-2.ensures)
    (simp to_z-of_z at c.times-3.ensures) (simp to_z-of_z at c.times-4.ensures)
    c.hull-low.ensures c.hull-high.ensures c.hull.ensures
