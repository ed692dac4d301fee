-- Attributes are read up to here. The rest of the text gets shorter.
use Rattle.std.proofs.Common.{◌-◌, length}
use Rattle.c_parser_words.proofs.Skipped.{AreSkipped}
use Rattle.c_parser_words.proofs.brackets.attributes.Given as goal

abbrev pub invariant-loop-here : goal.invariant-loop-here
invariant-loop-here l = AreSkipped l.source l.at l.here

abbrev pub decreases-loop-here : goal.decreases-loop-here
decreases-loop-here l = length l.source - l.here
