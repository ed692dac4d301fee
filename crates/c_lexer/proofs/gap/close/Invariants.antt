use Rattle.std.proofs.Common.{◌≡◌, ◌+◌, false, drop, option_map}
use Rattle.c_lexer.specs.Steps.Reading.{close_from}
use Rattle.c_lexer.proofs.gap.close.Given as goal

abbrev pub invariant-loop-i : goal.invariant-loop-i
invariant-loop-i l =
    close_from false l.text ≡ option_map (λ n. n + l.i) (close_from l.star (drop l.i l.text))
