-- The brackets that are open are those counted since the start. The rest of the text gets shorter.
use Rattle.std.proofs.Common.{◌-◌, length}
use Rattle.c_parser_words.proofs.Among.{IsAmong}
use Rattle.c_parser_words.proofs.brackets.balanced.Given as goal

abbrev pub invariant-loop-opens : goal.invariant-loop-opens
invariant-loop-opens l = IsAmong l.opens l.closes l.source l.at l.depth l.here

abbrev pub decreases-loop-opens : goal.decreases-loop-opens
decreases-loop-opens l = length l.source - l.here
