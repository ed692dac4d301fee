use Rattle.std.proofs.Common.{◌≡◌, take}
use Rattle.cpa_blast.specs.Formulas.{words_of}
use Rattle.cpa_blast.proofs.places.words_of.Given as goal

abbrev pub invariant-loop-place : goal.invariant-loop-place
invariant-loop-place l = l.words.items ≡ words_of (take l.place-index l.places)
