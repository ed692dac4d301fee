-- The words are read up to here. The rest of the text gets shorter.
use Rattle.std.proofs.Common.{◌-◌, length}
use Rattle.c_parser_words.proofs.SpecifierWords.{AreQualifiers}
use Rattle.c_parser_words.proofs.words.qualifiers.Given as goal

abbrev pub invariant-loop-kind : goal.invariant-loop-kind
invariant-loop-kind l = AreQualifiers l.allowed l.source l.at l.words.items l.here

abbrev pub decreases-loop-kind : goal.decreases-loop-kind
decreases-loop-kind l = length l.source - l.here
