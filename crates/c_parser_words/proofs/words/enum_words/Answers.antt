-- The word enum in front, and the enumerated type beside it.
use Rattle.std.proofs.Common.{refl}
use Rattle.c_parser_words.proofs.words.enum_words.Goals as goal

pub returns : goal.returns
returns c = record { words_are = c.in_ok-words.ensures; found_is = refl }
