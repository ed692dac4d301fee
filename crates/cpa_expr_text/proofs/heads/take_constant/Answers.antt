use Rattle.std.proofs.Common.{◌≡◌, ◌∷◌, ◌∙◌, ap, to_z, of_z, to_z-of_z}
use Rattle.std.specs.Fmt.{signed_decimal}
use Rattle.std.specs.Int.{w128}
use Rattle.cpa_expr_text.specs.declared.heads.Head.TheVariants as head
use Rattle.cpa_expr_text.specs.Reading.{texts}
use Rattle.cpa_expr_text.proofs.Behind.{const_behind}
use Rattle.cpa_expr_text.proofs.heads.take_constant.Goals as goal

pub returns-clause-read : goal.returns-clause-read
returns-clause-read c h us at fits is =
    const_behind (texts c.args.words.now) us
    (λ k. (head.Leaf c.in_ok-ty.ty (to_z w128 (of_z w128 c.in_ok-value.value)) ≡ k)
    × (texts c.in_ok-value.rest.now ≡ us)) (λ t n small front.
    let first = c.in_ok-ty.ensures t (signed_decimal n ∷ us) front in
    let second = c.in_ok-value.ensures.read n us small first.1 in (
      ap (λ x. head.Leaf x (to_z w128 (of_z w128 c.in_ok-value.value))) first.0
          ∙ ap (head.Leaf t) (to_z-of_z {w = w128} c.in_ok-value.ensures.fit ∙ second.0),
      second.1,
    ))
    h at fits is
