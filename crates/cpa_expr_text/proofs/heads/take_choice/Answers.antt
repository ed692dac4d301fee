use Rattle.std.proofs.Common.{◌≡◌, ap}
use Rattle.cpa_expr_text.specs.declared.heads.Head.TheVariants as head
use Rattle.cpa_expr_text.specs.Reading.{texts}
use Rattle.cpa_expr_text.proofs.Behind.{choice_behind}
use Rattle.cpa_expr_text.proofs.heads.take_choice.Goals as goal

pub returns-clause-read : goal.returns-clause-read
returns-clause-read c h us at is =
    choice_behind (texts c.args.words.now) us
    (λ k. (head.Three c.in_ok-ty.ty ≡ k) × (texts c.in_ok-ty.rest.now ≡ us)) (λ t front.
    let took = c.in_ok-ty.ensures t us front in
    (ap (λ x. head.Three x) took.0, took.1)) h at is
