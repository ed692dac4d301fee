use Rattle.std.proofs.Common.{◌≡◌, ◌∷◌, ◌∙◌, ap, decimal}
use Rattle.cpa_expr_text.specs.declared.heads.Head.TheVariants as head
use Rattle.cpa_expr_text.specs.declared.heads.One.TheVariants as one
use Rattle.cpa_expr_text.specs.Reading.{texts}
use Rattle.cpa_expr_text.proofs.Behind.{read_behind}
use Rattle.cpa_expr_text.proofs.heads.take_read.Goals as goal

pub returns-in_err-len-clause-read : goal.returns-in_err-len-clause-read
returns-in_err-len-clause-read c h us at fits is =
    absurd (read_behind (texts c.args.words.now) us (λ k. ⊥) (λ t base len b l front.
    let first = c.in_ok-ty.ensures t (decimal base ∷ decimal len ∷ us) front in
    let second = c.in_ok-base.ensures.read base (decimal len ∷ us) b first.1 in
    c.in_err-len.ensures.read len us l second.1) h at fits is)

pub returns-clause-read : goal.returns-clause-read
returns-clause-read c h us at fits is =
    read_behind (texts c.args.words.now) us
    (λ k. (head.One (one.Read c.in_ok-ty.ty c.in_ok-base.base c.in_ok-len.len) ≡ k)
    × (texts c.in_ok-len.rest.now ≡ us)) (λ t base len b l front.
    let first = c.in_ok-ty.ensures t (decimal base ∷ decimal len ∷ us) front in
    let second = c.in_ok-base.ensures.read base (decimal len ∷ us) b first.1 in
    let third = c.in_ok-len.ensures.read len us l second.1 in (
      ap (λ x. head.One (one.Read x c.in_ok-base.base c.in_ok-len.len)) first.0
          ∙ ap (λ x. head.One (one.Read t x c.in_ok-len.len)) second.0
          ∙ ap (λ x. head.One (one.Read t base x)) third.0,
      third.1,
    )) h at fits is
