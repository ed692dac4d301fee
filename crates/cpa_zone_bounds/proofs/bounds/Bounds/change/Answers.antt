-- The changed bounds are bounds.
use Rattle.std.proofs.Common.{◌≡◌, length, drop, ap, ◌∙◌, arith}
use Rattle.std.proofs.lemmas.List.{take_at}
use Rattle.cpa_zone_bounds.specs.Changes.{changed}
use Rattle.cpa_zone_bounds.specs.lemmas.Changing.{change_holds}
use Rattle.cpa_zone_bounds.proofs.bounds.Bounds.change.Goals as goal

pub invariant_of-self : goal.invariant_of-self
invariant_of-self c =
    let new = c.change_all.new.most in
    let old = c.self.inside.most in
    let kept = c.change_all.auto.most in
    let long = c.as_mut_slice.ensures.len in
    let n : length new ≡ old.len = omega (arith, kept, long) in
    change_holds c.self.inside.ranges.items c.args.change old.items _ c.self.invariant
    (take_at new (drop (length new) old.items) old.len n
    ∙ (c.change_all.ensures
    ∙ (ap (λ rs. changed rs c.args.change c.as_mut_slice.result.now) c.as_slice.ensures.value
    ∙ ap (changed c.self.inside.ranges.items c.args.change) c.as_mut_slice.ensures.value)))
