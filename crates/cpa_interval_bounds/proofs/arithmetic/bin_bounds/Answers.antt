-- Ends that stop where 128 bits end fit the same types.
use Rattle.std.proofs.Common.{◌≡◌, ap, sym, ◌∙◌, pos, false, cond}
use Rattle.cpa_interval_bounds.specs.Bounds.{range_of, has, fitted}
use Rattle.cpa_interval_bounds.specs.Arithmetic.{sum, difference, product, quotient}
use Rattle.cpa_interval_bounds.specs.lemmas.Saturated.{fitted_saturated}
use Rattle.cpa_interval_bounds.proofs.arithmetic.bin_bounds.Goals as goal

pub returns-in-Add : goal.returns-in-Add
returns-in-Add c =
    let a = c.args in
    rw c.in-Add.is (c.fitted.ensures ∙ (ap (fitted a.ty) c.sum.ensures
    ∙ fitted_saturated a.ty (sum a.a a.b)))

pub returns-in-Sub : goal.returns-in-Sub
returns-in-Sub c =
    let a = c.args in
    rw c.in-Sub.is (c.fitted-in-Sub.ensures ∙ (ap (fitted a.ty) c.difference.ensures
    ∙ fitted_saturated a.ty (difference a.a a.b)))

pub returns-in-Mul : goal.returns-in-Mul
returns-in-Mul c =
    let a = c.args in
    rw c.in-Mul.is (c.fitted-in-Mul.ensures ∙ (ap (fitted a.ty) c.product.ensures
    ∙ fitted_saturated a.ty (product a.a a.b)))

pub returns-else-has : goal.returns-else-has
returns-else-has c =
    let a = c.args in
    let apart : has a.b (pos 0) ≡ false = sym c.has.ensures ∙ c.if-has.false in
    rw c.in-Div.is (c.fitted-else-has.ensures ∙ (ap (fitted a.ty) c.quotient.ensures
    ∙ (fitted_saturated a.ty (quotient a.a a.b)
    ∙ sym (ap (λ x. cond x (range_of a.ty) (fitted a.ty (quotient a.a a.b))) apart))))
