use Rattle.std.proofs.Common.{◌≡◌, ◌++◌, ◌-◌}
use Rattle.cpa_blast_words.specs.Words.{constant_word}
use Rattle.cpa_blast_words.proofs.words.constant_word.Given as goal

abbrev pub invariant-push : goal.invariant-push
invariant-push l =
    l.word ++ constant_word (l.width - l._pushed) l.rest ≡ constant_word l.width l.number
