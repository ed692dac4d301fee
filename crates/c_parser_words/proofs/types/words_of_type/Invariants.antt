-- The words are read up to here, and are part of a type. The rest of the text gets shorter.
use Rattle.std.proofs.Common.{◌-◌, length}
use Rattle.c_parser_words.proofs.TypeNames.{AreTypeWords}
use Rattle.c_parser_words.proofs.types.words_of_type.Given as goal

abbrev pub invariant-loop-word : goal.invariant-loop-word
invariant-loop-word l = AreTypeWords l.source l.at l.words.items l.here

abbrev pub decreases-loop-word : goal.decreases-loop-word
decreases-loop-word l = length l.source - l.here
