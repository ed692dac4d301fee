use Rattle.std.proofs.Common.{◌≡◌, ap}
use Rattle.cpa_expr_text.specs.declared.heads.Head.TheVariants as head
use Rattle.cpa_expr_text.specs.declared.heads.One.TheVariants as one
use Rattle.cpa_expr_text.specs.Reading.{texts}
use Rattle.cpa_expr_text.proofs.Behind.{cast_behind}
use Rattle.cpa_expr_text.proofs.heads.take_cast.Goals as goal

pub returns-clause-read : goal.returns-clause-read
returns-clause-read c h us at is =
    cast_behind (texts c.args.words.now) us
    (λ k. (head.One (one.Cast c.in_ok-ty.ty) ≡ k) × (texts c.in_ok-ty.rest.now ≡ us))
    (λ t front.
    let took = c.in_ok-ty.ensures t us front in
    (ap (λ x. head.One (one.Cast x)) took.0, took.1)) h at is
