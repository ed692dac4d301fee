use Rattle.std.proofs.Common.{ℤ, sym, ap, subst, ◌∙◌, to_z-of_z}
use Rattle.cpa_ints.specs.Integers.{IsInRange}
use Rattle.cpa_ints.specs.declared.integers.IntType.TheVariants as ty
use Rattle.c_types_rules.specs.Declarations.{is_int}
use Rattle.c_types_objects.proofs.Enumerating.{int_is}
use Rattle.c_types_objects.proofs.enumerators.int_or_zero.Goals as goal
use mir.Syntax.{w128}

pub returns-then-is-clause-range : goal.returns-then-is-clause-range
returns-then-is-clause-range c =
    let same = to_z-of_z {w = w128} c.ranges.number in
    subst (λ (n : ℤ). IsInRange ty.I32 n) (sym same)
    (int_is c.args.number (ap (λ (n : ℤ). is_int n) (sym same) ∙ sym c.is_int-is.ensures
    ∙ c.if-is.true))
