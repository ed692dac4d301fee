-- A number to which n wraps is the one that `wrapped` names.
use Rattle.std.proofs.Common.{arith, ◌∙◌, subst, pos, to_z-of_z, FitsSigned}
use Rattle.std.proofs.lemmas.Grind.{common_steps}
use Rattle.cpa_ints.specs.Wrapping.{IsWrapOf}
use Rattle.cpa_ints.specs.lemmas.WrapLaws.{wrap_unique}
use Rattle.cpa_ints.proofs.wrapping.wrap.Goals as goal
use mir.Syntax.{w128}

pub returns-else-n-eq0-clause-value : goal.returns-else-n-eq0-clause-value
returns-else-n-eq0-clause-value c =
    let is : IsWrapOf c.args.ty c.args.n (pos 1) = grind (arith, common_steps) in
    wrap_unique c.args.ty c.args.n (pos 1) is

pub returns-else-eq-clause-value : goal.returns-else-eq-clause-value
returns-else-eq-clause-value c =
    let fits : FitsSigned w128 c.wrap_modular.result = record { sfits = c.wrap_modular.type_inv } in
    let is : IsWrapOf c.args.ty c.args.n c.wrap_modular.result = subst (λ n.
    IsWrapOf c.args.ty n c.wrap_modular.result) (to_z-of_z {w = w128} c.ranges.n)
    c.wrap_modular.ensures in
    to_z-of_z {w = w128} fits ∙ wrap_unique c.args.ty c.args.n c.wrap_modular.result is
