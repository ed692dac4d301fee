-- The words are read up to here, and those of types are part of a type. The rest of the text gets
-- shorter.
use Rattle.std.proofs.Common.{◌-◌, length}
use Rattle.c_parser_words.proofs.SpecifierWords.{AreSpecifiers}
use Rattle.c_parser_words.proofs.words.listed_keywords.Given as goal

abbrev pub invariant-loop-kind : goal.invariant-loop-kind
invariant-loop-kind l = AreSpecifiers l.allowed l.source l.at l.words.items l.types.items l.here

abbrev pub decreases-loop-kind : goal.decreases-loop-kind
decreases-loop-kind l = length l.source - l.here
