-- The ends stop where 128 bits end.
use Rattle.std.proofs.Common.{ap, ◌∙◌, FitsSigned, rules, ◌+ℤ◌, pos, cond}
use Rattle.std.specs.Int.{w128, saturate_signed}
use Rattle.std.proofs.lemmas.Int.{to_z-of_z}
use Rattle.cpa_interval_bounds.specs.Bounds.{between}
use Rattle.cpa_interval_bounds.specs.Truths.{is_only}
use Rattle.cpa_interval_bounds.specs.lemmas.Ends.{without_ends}
use Rattle.cpa_interval_bounds.proofs.cuts.without.Goals as goal

pub returns : goal.returns
returns c =
    let a = c.args.a in
    let lo : FitsSigned w128 a.lo = search rules in
    let hi : FitsSigned w128 a.hi = search rules in
    let first : FitsSigned w128 c.low_without.result = search rules in
    let last : FitsSigned w128 c.high_without.result = search rules in
    let low = simp to_z-of_z at c.low_without.ensures in
    let high = simp to_z-of_z at c.high_without.ensures in
    (simp to_z-of_z at c.between.ensures)
    ∙ (ap (λ z. between z c.high_without.result) low
    ∙ (ap (between (cond (is_only c.args.b a.lo) (saturate_signed w128 (a.lo +ℤ pos 1)) a.lo)) high
    ∙ without_ends a c.args.b lo hi))
