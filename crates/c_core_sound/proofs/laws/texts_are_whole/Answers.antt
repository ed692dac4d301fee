-- Numbers and characters are in range, and so the grammar reads what is whole.
use Rattle.c_core_sound.proofs.TextWhole.{text_whole}
use Rattle.c_core_sound.proofs.laws.texts_are_whole.Goals as goal

pub returns : goal.returns
returns c = λ model text tokens tree are t.
    text_whole text tokens tree
    (λ i token at. c.constants_lie_in_range.ensures.number model text tokens i token are at)
    (λ i token at. c.constants_lie_in_range.ensures.character model text tokens i token are at) t
