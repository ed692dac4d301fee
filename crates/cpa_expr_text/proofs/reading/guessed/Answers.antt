use Rattle.std.proofs.Common.{◌≡◌, ◌∙◌, [], ap, Some}
use Rattle.std.specs.Prelude.{◌==◌}
use Rattle.std.specs.List.{slice_split}
use Rattle.cpa_expr_text.specs.Reading.{texts}
use Rattle.cpa_expr_text.proofs.Cuts.{cut_text}
use Rattle.cpa_expr_text.proofs.reading.guessed.Goals as goal

pub returns-in-Ok-clause-read : goal.returns-in-Ok-clause-read
returns-in-Ok-clause-read c e fit low is =
    let words =
    ap texts c.as_slice.ensures.value ∙ c.in_ok-words.ensures
    ∙ ap (slice_split (λ b. b == 32)) is ∙ cut_text e fit in
    let took = c.in-Ok.ensures.read e [] fit low words in
    ap Some took.0

pub returns-in-Err-Other-clause-read : goal.returns-in-Err-Other-clause-read
returns-in-Err-Other-clause-read c e fit low is =
    let words =
    ap texts c.as_slice.ensures.value ∙ c.in_ok-words.ensures
    ∙ ap (slice_split (λ b. b == 32)) is ∙ cut_text e fit in
    let took = c.in-Err-Other.ensures.read e [] fit low words in
    absurd (cc)
