-- The words one behind the other.
use Rattle.std.proofs.Common.{refl, rules}
use Rattle.c_parser_words.proofs.words.specifiers_of.Goals as goal

pub returns : goal.returns
returns c = record { words_are = search rules; found_is = refl; place_is = refl }
