-- Ends that stop where 128 bits end fit the same types.
use Rattle.std.proofs.Common.{ap, ◌∙◌}
use Rattle.cpa_interval_bounds.specs.Bounds.{fitted}
use Rattle.cpa_interval_bounds.specs.Arithmetic.{negation}
use Rattle.cpa_interval_bounds.specs.lemmas.Saturated.{fitted_saturated}
use Rattle.cpa_interval_bounds.proofs.arithmetic.un_bounds.Goals as goal

pub returns-in-Neg : goal.returns-in-Neg
returns-in-Neg c =
    let a = c.args in
    rw c.in-Neg.is (c.fitted.ensures ∙ (ap (fitted a.ty) c.negation.ensures
    ∙ fitted_saturated a.ty (negation a.a)))
