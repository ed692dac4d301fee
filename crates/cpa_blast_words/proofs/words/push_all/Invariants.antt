use Rattle.std.proofs.Common.{◌≡◌, ◌++◌, take}
use Rattle.cpa_blast_words.proofs.words.push_all.Given as goal

abbrev pub invariant-loop-x : goal.invariant-loop-x
invariant-loop-x l = l.word ≡ l.initial.word ++ take l.x-index l.xs
