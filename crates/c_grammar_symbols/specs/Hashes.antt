-- How a word or a mark is looked up (this project's own): by a number of its bytes.
use Rattle.std.specs.Prelude.{ℕ, ◌+◌, ◌-◌, ◌*◌, ◌/◌, ◌%◌, List, length, slice_index, cond}
use Rattle.std.specs.Prelude.{Option, None, Some}
use Rattle.std.specs.List.{slice_get}
use Rattle.std.specs.Str.{bytes_eq}
use Rattle.c_grammar_symbols.specs.declared.symbol.Symbol.{Symbol}
use Rattle.c_grammar_symbols.specs.Symbols.{spelling_of}

-- a number of some bytes, of which there is one at least
unfoldable pub hash : List ℕ → ℕ
hash bytes =
    (length bytes % 16 * 5 + slice_index bytes 0 * 6 + slice_index bytes (length bytes / 2) +
    slice_index bytes (length bytes - 1) * 7) % 256

-- the symbol, if there is one and it is spelled so
abbrev pub if_spelled : List ℕ → Option Symbol → Option Symbol
if_spelled bytes None = None
if_spelled bytes (Some symbol) = cond (bytes_eq (spelling_of symbol) bytes) (Some symbol) None

-- the symbol at a place of a table, if it is spelled so
abbrev pub spelled_at : List Symbol → ℕ → List ℕ → Option Symbol
spelled_at table place bytes = if_spelled bytes (slice_get table place)
