use Rattle.std.proofs.Common.{◌≡◌, ◌++◌, replicate}
use Rattle.cpa_blast_words.proofs.words.push_repeated.Given as goal

abbrev pub invariant-push : goal.invariant-push
invariant-push l = l.word ≡ l.initial.word ++ replicate l._pushed l.literal
