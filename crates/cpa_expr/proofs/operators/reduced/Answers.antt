-- To wrap once more, or to 64 bits first, changes nothing.
use Rattle.std.proofs.Common.{◌≡◌, ap, ◌∙◌, subst, sym}
use Rattle.cpa_ints.specs.Wrapping.{wrapped}
use Rattle.cpa_ints.specs.declared.integers.IntType.TheVariants as ty
use Rattle.cpa_ints.specs.lemmas.Arithmetic.{wrapped_twice}
use Rattle.cpa_expr.proofs.WrapSteps.{back, comes_back, wrapped_of_long}
use Rattle.cpa_expr.proofs.operators.reduced.Goals as goal

pub returns-in-Bool-clause-alike : goal.returns-in-Bool-clause-alike
returns-in-Bool-clause-alike c =
    let n = c.args.n in
    let w = c.wrap.result in
    let is = comes_back w (record { sfits = c.wrap.type_inv }) ∙ c.wrap.ensures.value
    ∙ ap (wrapped ty.Bool) (comes_back n c.ranges.n) in
    subst (λ t. wrapped t (back w) ≡ wrapped t n) (sym c.in-Bool.is) (ap (wrapped ty.Bool) is
    ∙ wrapped_twice ty.Bool n)

pub returns-in_default-clause-alike : goal.returns-in_default-clause-alike
returns-in_default-clause-alike c =
    let n = c.args.n in
    let w = c.wrap-in_default.result in
    let is = comes_back w (record { sfits = c.wrap-in_default.type_inv })
    ∙ c.wrap-in_default.ensures.value ∙ ap (wrapped ty.I64) (comes_back n c.ranges.n) in
    ap (wrapped c.args.ty) is ∙ wrapped_of_long c.args.ty c.in_default.not-Bool n
