use Rattle.std.proofs.Common.{◌+◌, ◌-◌, ◌/◌, ◌++◌, ◌∷◌, [], ap, ◌∙◌}
use Rattle.cpa_blast_words.specs.Words.{constant_word}
use Rattle.cpa_blast_words.proofs.Steps.{constant_next}
use Rattle.cpa_blast_words.proofs.words.constant_word.Goals as goal

pub push-preserved : goal.push-preserved
push-preserved c =
    let l = c.push in
    ap (λ ls. ls ++ constant_word (c.args.width - (l._pushed + 1)) (l.rest / 2))
    (c.in_ok-push.ensures.ok ∙ ap (λ x. l.word ++ x ∷ []) c.constant_literal.ensures)
    ∙ constant_next l.word (constant_word c.args.width c.args.number) c.args.width l._pushed l.rest
    c.push-test.true l.invariant
