-- The tightened bounds are bounds.
use Rattle.std.proofs.Common.{◌≡◌, ◌<◌, length, drop, rules, subst, sym, ap, ◌∙◌, arith, FitsSigned}
use Rattle.std.specs.Int.{w128}
use Rattle.std.proofs.lemmas.Int.{to_z-of_z}
use Rattle.std.proofs.lemmas.List.{take_at}
use Rattle.cpa_zone_bounds.specs.Distances.{Square}
use Rattle.cpa_zone_bounds.specs.Changes.{tightened}
use Rattle.cpa_zone_bounds.specs.lemmas.Changing.{tighten_holds}
use Rattle.cpa_zone_bounds.proofs.bounds.Bounds.tighten.Goals as goal

pub invariant_of-self : goal.invariant_of-self
invariant_of-self c =
    let new = c.tighten.new.most in
    let old = c.self.inside.most in
    let kept = c.tighten.auto.most in
    let long = c.as_mut_slice.ensures.len in
    let n : length new ≡ old.len = omega (arith, kept, long) in
    let fits : FitsSigned w128 c.args.most = search rules in
    let rows : c.len-rows.result ≡ length c.self.inside.ranges.items = search rules in
    let done = simp to_z-of_z at c.tighten.ensures in
    tighten_holds c.self.inside.ranges.items c.args.row c.args.column c.args.most old.items _
    (subst (λ (v : Square). c.args.row < length v.ranges) (sym c.self.view_is) c.requires.row)
    (subst (λ (v : Square). c.args.column < length v.ranges) (sym c.self.view_is)
    c.requires.column)
    c.requires.other c.self.invariant
    (take_at new (drop (length new) old.items) old.len n
    ∙ (done
    ∙ (ap (λ k. tightened k c.args.row c.args.column c.args.most c.as_mut_slice.result.now) rows
    ∙ ap (tightened (length c.self.inside.ranges.items) c.args.row c.args.column c.args.most)
    c.as_mut_slice.ensures.value)))
