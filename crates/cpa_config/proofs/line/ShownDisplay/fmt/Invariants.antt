use Rattle.std.proofs.Common.{◌≡◌, ◌++◌, ℕ, List, map, IsUtf8, chars}
use Rattle.std.specs.Fmt.{HasWritten, IsPlainFormatter}
use Rattle.std.specs.Str.Iter.{chars_rest}
use Rattle.cpa_config.specs.Lines.{shown, shown_character}
use Rattle.cpa_config.proofs.line.ShownDisplay.fmt.Given as goal

abbrev pub invariant-loop-character : goal.invariant-loop-character
invariant-loop-character g l =
    IsUtf8 (chars_rest l.character-iterator) × (written : List ℕ)
    × (written ++ map shown_character (chars (chars_rest l.character-iterator))
    ≡ shown l.fn.self.key.now)
    × (IsPlainFormatter l.fn.f → HasWritten g.W.Write.write_str_gives l.fn.f written l.f)
