-- Symbols without the values of constants, which stand beside the tokens of a source (this
-- project's own).
use Rattle.std.specs.Prelude.{ℕ, Bool, false, List, map, Option, None, Some}
use denote.Enum.Bare.{sameb}
use Rattle.c_lexer.specs.declared.token.Token.{Token}
use Rattle.c_grammar_symbols.specs.declared.words.Terminal.{Terminal}
use Rattle.c_grammar_symbols.specs.contracts.words.Terminal as terminal
use Rattle.c_grammar_symbols.specs.declared.symbol.Symbol.{Symbol}
use Rattle.c_grammar_symbols.specs.declared.symbol.Symbol.TheVariants as symbol
use Rattle.c_grammar_symbols.specs.declared.kind.SymbolKind.{SymbolKind}
use Rattle.c_grammar_symbols.specs.declared.kind.SymbolKind.TheVariants as kind
use Rattle.c_grammar_symbols.specs.Symbols.{symbol_of, leaf_of}

-- the symbol, without the value of a constant or the type of a typedef name
abbrev pub kind_of : Symbol → SymbolKind
kind_of symbol.End = kind.End
kind_of symbol.Name = kind.Name
kind_of (symbol.Number ty value) = kind.Number
kind_of (symbol.Character value) = kind.Character
kind_of symbol.Text = kind.Text
kind_of (symbol.Terminal t) = kind.Terminal t
kind_of (symbol.Binary operator) = kind.Binary operator
kind_of (symbol.Assign operator) = kind.Assign operator
kind_of (symbol.Step operator) = kind.Step operator
kind_of (symbol.Storage word) = kind.Storage word
kind_of (symbol.Specifier word) = kind.Specifier word
kind_of (symbol.TypeWord word) = kind.TypeWord word
kind_of (symbol.TypedefName named) = kind.TypedefName
kind_of (symbol.Outside word) = kind.Outside word
kind_of (symbol.Stray mark) = kind.Stray mark

-- the symbol of this kind, unless it is a constant or a typedef name
abbrev pub symbol_of_kind : SymbolKind → Option Symbol
symbol_of_kind kind.End = Some symbol.End
symbol_of_kind kind.Name = Some symbol.Name
symbol_of_kind kind.Number = None
symbol_of_kind kind.Character = None
symbol_of_kind kind.Text = Some symbol.Text
symbol_of_kind (kind.Terminal t) = Some (symbol.Terminal t)
symbol_of_kind (kind.Binary operator) = Some (symbol.Binary operator)
symbol_of_kind (kind.Assign operator) = Some (symbol.Assign operator)
symbol_of_kind (kind.Step operator) = Some (symbol.Step operator)
symbol_of_kind (kind.Storage word) = Some (symbol.Storage word)
symbol_of_kind (kind.Specifier word) = Some (symbol.Specifier word)
symbol_of_kind (kind.TypeWord word) = Some (symbol.TypeWord word)
symbol_of_kind kind.TypedefName = None
symbol_of_kind (kind.Outside word) = Some (symbol.Outside word)
symbol_of_kind (kind.Stray mark) = Some (symbol.Stray mark)

-- the kind is this terminal
abbrev pub kind_is_terminal : Terminal → SymbolKind → Bool
kind_is_terminal wanted (kind.Terminal found) = sameb terminal.the_type found wanted
kind_is_terminal wanted _ = false

-- the kind of a token of the text
abbrev pub kind_of_token : List ℕ → Token → SymbolKind
kind_of_token text token = kind_of (symbol_of (leaf_of text token))

-- the kinds of the text's tokens
abbrev pub kinds_of : List ℕ → List Token → List SymbolKind
kinds_of text tokens = map (kind_of_token text) tokens
