-- Classes of bytes (C11 5.2.1).
use Rattle.std.specs.Prelude.{◌≡◌, ℕ, Bool, false, not, ◌||◌, List, [], ◌∷◌, ◌==◌}
use Rattle.std.specs.Char.{is_ascii_alphabetic, is_ascii_alphanumeric}
use Rattle.c_lexer.specs.declared.byte.TheConstants.{CARRIAGE_RETURN, FORM_FEED, FULL_STOP}
use Rattle.c_lexer.specs.declared.byte.TheConstants.{LINE_FEED, SPACE, TAB, UNDERSCORE}
use Rattle.c_lexer.specs.declared.byte.TheConstants.{VERTICAL_TAB}

-- a space, a tab, a line feed, a vertical tab, a form feed or a carriage return
abbrev pub is_blank : ℕ → Bool
is_blank byte = byte == SPACE || byte == TAB || byte == LINE_FEED ||
    byte == VERTICAL_TAB || byte == FORM_FEED || byte == CARRIAGE_RETURN

-- a letter or the underscore
abbrev pub is_word_head : ℕ → Bool
is_word_head byte = is_ascii_alphabetic byte || byte == UNDERSCORE

-- a letter, a digit or the underscore
abbrev pub is_word_byte : ℕ → Bool
is_word_byte byte = is_ascii_alphanumeric byte || byte == UNDERSCORE

-- what goes on with a number: a letter, a digit, the underscore or a full stop (C11 6.4.8)
abbrev pub is_number_byte : ℕ → Bool
is_number_byte byte = is_word_byte byte || byte == FULL_STOP

-- any byte but the line feed
abbrev pub is_on_line : ℕ → Bool
is_on_line byte = not (byte == LINE_FEED)

-- the bytes begin with one that passes
abbrev pub begins_with : (ℕ → Bool) → List ℕ → Bool
begins_with test [] = false
begins_with test (byte ∷ rest) = test byte

-- no byte that passes comes next
abbrev pub StopsAt : (ℕ → Bool) → List ℕ → Type 0
StopsAt test rest = begins_with test rest ≡ false
