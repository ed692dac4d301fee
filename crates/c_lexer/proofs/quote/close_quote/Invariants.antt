use Rattle.std.proofs.Common.{◌≡◌, ◌+◌, false, drop, option_map}
use Rattle.c_lexer.specs.Steps.Reading.{close_quote}
use Rattle.c_lexer.proofs.quote.close_quote.Given as goal

abbrev pub invariant-loop-i : goal.invariant-loop-i
invariant-loop-i l =
    close_quote l.quote false l.text ≡ option_map (λ n. n + l.i)
    (close_quote l.quote l.escaped (drop l.i l.text))
