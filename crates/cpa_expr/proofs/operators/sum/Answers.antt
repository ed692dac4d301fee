-- A sum that does not fit wraps like the sum of the reduced numbers.
use Rattle.std.proofs.Common.{◌≡◌, ap, ◌∙◌, subst, sym, FitsSigned, ◌+ℤ◌}
use Rattle.cpa_ints.specs.Wrapping.{wrapped}
use Rattle.cpa_expr.proofs.WrapSteps.{far_sum, wrap_far_sum, reduced_small, back, comes_back}
use Rattle.cpa_expr.proofs.operators.sum.Goals as goal
use mir.Syntax.{w128}

pub returns-in-None : goal.returns-in-None
returns-in-None c =
    let a = c.args.a in
    let b = c.args.b in
    let t = c.args.ty in
    let r = c.reduced.ensures in
    let s = c.reduced-in-None.ensures in
    let exact : back a +ℤ back b ≡ a +ℤ b = ap (λ z. z +ℤ back b) (comes_back a c.ranges.a)
    ∙ ap (λ z. a +ℤ z) (comes_back b c.ranges.b) in
    let far = far_sum a b c.ranges.a (λ f. c.in-None.ensures
    (subst (FitsSigned w128) (sym exact) f)) in
    wrap_far_sum t a b c.reduced.result c.reduced-in-None.result c.wrap-in-None.result far
    (record { sfits = c.wrap-in-None.type_inv }) (
      r.low,
      r.high,
    ) (reduced_small c.reduced-in-None.result (s.low, s.high)) r.boolean s.boolean
    (r.alike ∙ ap (wrapped t) (comes_back a c.ranges.a)) (s.alike
    ∙ ap (wrapped t) (comes_back b c.ranges.b)) c.wrap-in-None.ensures.value
