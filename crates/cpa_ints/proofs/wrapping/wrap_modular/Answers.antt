-- The low bits are the remainder, and `into_range` moves it down where it has to.
use Rattle.std.proofs.Common.{◌≡◌, ◌∙◌, sym, subst, ap, pos, ◌^◌, ◌-ℤ◌, int_lt, to_z-of_z}
use Rattle.std.proofs.Common.{FitsSigned}
use Rattle.std.specs.Prelude.{if◌then◌else◌}
use Rattle.std.specs.Int.{int_rem_euclid}
use Rattle.cpa_ints.specs.Integers.{width, greatest}
use Rattle.cpa_ints.specs.Wrapping.{IsWrapOf}
use Rattle.cpa_ints.specs.lemmas.WrapLaws.{lowered_is_wrap}
use Rattle.cpa_ints.proofs.wrapping.wrap_modular.Goals as goal
use mir.Syntax.{w128}

pub returns : goal.returns
returns c =
    let ty = c.args.ty in
    let n = c.args.n in
    let fits : FitsSigned w128 c.low_bits.result = record { sfits = c.low_bits.type_inv } in
    let same : FitsSigned w128 c.into_range.result = record { sfits = c.into_range.type_inv } in
    let low : c.low_bits.result ≡ int_rem_euclid n (pos (2 ^ width ty)) =
    c.low_bits.ensures.value
    ∙ ap (λ z. int_rem_euclid z (pos (2 ^ c.width.result))) (to_z-of_z {w = w128} c.ranges.n)
    ∙ ap (λ w. int_rem_euclid n (pos (2 ^ w))) c.width.ensures in
    let moved = to_z-of_z {w = w128} same ∙ c.into_range.ensures
    ∙ ap (λ z. if int_lt (greatest ty) z then z -ℤ pos (2 ^ width ty)
    else z) (to_z-of_z {w = w128} fits) in
    subst (IsWrapOf ty n) (sym moved) (lowered_is_wrap ty c.requires n c.low_bits.result low)
