use Rattle.std.proofs.Common.{◌≡◌, length}
use Rattle.c_lexer.specs.Steps.Reading.{behind_spaces}
use Rattle.c_lexer.proofs.gap.behind_spaces.Given as goal

abbrev pub invariant-loop-length : goal.invariant-loop-length
invariant-loop-length l = behind_spaces l.rest ≡ behind_spaces l.fn.text

abbrev pub decreases-loop-length : goal.decreases-loop-length
decreases-loop-length l = length l.rest
