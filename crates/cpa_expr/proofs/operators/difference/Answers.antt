-- A difference that does not fit wraps like the sum of the reduced numbers.
use Rattle.std.proofs.Common.{◌≡◌, ap, ◌∙◌, subst, sym, FitsSigned, ◌-ℤ◌, neg_ℤ, pos, ◌≤ℤ◌}
use Rattle.cpa_ints.specs.Wrapping.{wrapped}
use Rattle.cpa_ints.specs.declared.integers.IntType.TheVariants as ty
use Rattle.cpa_ints.specs.lemmas.Arithmetic.{wrapped_twice}
use Rattle.cpa_expr.proofs.WrapSteps.{far_difference, wrap_far_sum, wrapped_small, wrapped_boolean}
use Rattle.cpa_expr.proofs.WrapSteps.{sum_fits, Small, back, comes_back}
use Rattle.cpa_expr.proofs.operators.difference.Goals as goal
use mir.Syntax.{w128}

pub overflow_add-reduced : goal.overflow_add-reduced
overflow_add-reduced c =
    let r = c.reduced.ensures in
    let small = subst Small (sym c.negated.ensures)
    (wrapped_small c.args.ty (neg_ℤ (back c.args.b))) in
    sum_fits c.reduced.result c.negated.result (r.low, r.high) small

pub returns-in-None : goal.returns-in-None
returns-in-None c =
    let a = c.args.a in
    let b = c.args.b in
    let t = c.args.ty in
    let r = c.reduced.ensures in
    let s = c.negated.result in
    let exact : back a -ℤ back b ≡ a -ℤ b = ap (λ z. z -ℤ back b) (comes_back a c.ranges.a)
    ∙ ap (λ z. a -ℤ z) (comes_back b c.ranges.b) in
    let far = far_difference a b c.ranges.a (λ f. c.in-None.ensures
    (subst (FitsSigned w128) (sym exact) f)) in
    let is = c.negated.ensures ∙ ap (λ z. wrapped t (neg_ℤ z)) (comes_back b c.ranges.b) in
    let small = subst Small (sym is) (wrapped_small t (neg_ℤ b)) in
    let boolean : t ≡ ty.Bool →
    pos 0 ≤ℤ s = λ e. subst (λ z. pos 0 ≤ℤ z) (sym is) (wrapped_boolean t (neg_ℤ b) e) in
    wrap_far_sum t a (neg_ℤ b) c.reduced.result s c.wrap-in-None.result far
    (record { sfits = c.wrap-in-None.type_inv }) (
      r.low,
      r.high,
    ) small r.boolean boolean (r.alike
    ∙ ap (wrapped t) (comes_back a c.ranges.a)) (ap (wrapped t) is
    ∙ wrapped_twice t (neg_ℤ b)) c.wrap-in-None.ensures.value
