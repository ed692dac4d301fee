-- Which statement begins with a token (C11 6.8).
use Rattle.std.specs.Prelude.{Bool, true, false, ◌||◌}
use Rattle.c_grammar_symbols.specs.declared.words.Terminal.TheVariants as terminal
use Rattle.c_grammar_symbols.specs.declared.symbol.Symbol.{Symbol}
use Rattle.c_grammar_symbols.specs.declared.symbol.Symbol.TheVariants as symbol
use Rattle.c_grammar_symbols.specs.Symbols.{Leaf, symbol_of}
use Rattle.c_grammar_tree.specs.Parts.{begins_expression, is_local_specifier}
use Rattle.c_parser_statements.specs.declared.kinds.StatementKind.{StatementKind}
use Rattle.c_parser_statements.specs.declared.kinds.StatementKind.TheVariants as kind

-- the statement that the symbol opens; all that opens none opens an expression, or nothing
abbrev pub kind_of : Symbol → StatementKind
kind_of (symbol.Terminal terminal.LeftBrace) = kind.Block
kind_of (symbol.Terminal terminal.Semicolon) = kind.Empty
kind_of (symbol.Terminal terminal.If) = kind.If
kind_of (symbol.Terminal terminal.While) = kind.While
kind_of (symbol.Terminal terminal.Do) = kind.Do
kind_of (symbol.Terminal terminal.For) = kind.For
kind_of (symbol.Terminal terminal.Switch) = kind.Switch
kind_of (symbol.Terminal terminal.Case) = kind.Case
kind_of (symbol.Terminal terminal.Default) = kind.Default
kind_of (symbol.Terminal terminal.Goto) = kind.Goto
kind_of (symbol.Terminal terminal.Break) = kind.Break
kind_of (symbol.Terminal terminal.Continue) = kind.Continue
kind_of (symbol.Terminal terminal.Return) = kind.Return
kind_of _ = kind.Expression

-- a symbol that opens it
abbrev pub opener : StatementKind → Symbol
opener kind.Block = symbol.Terminal terminal.LeftBrace
opener kind.Empty = symbol.Terminal terminal.Semicolon
opener kind.If = symbol.Terminal terminal.If
opener kind.While = symbol.Terminal terminal.While
opener kind.Do = symbol.Terminal terminal.Do
opener kind.For = symbol.Terminal terminal.For
opener kind.Switch = symbol.Terminal terminal.Switch
opener kind.Case = symbol.Terminal terminal.Case
opener kind.Default = symbol.Terminal terminal.Default
opener kind.Goto = symbol.Terminal terminal.Goto
opener kind.Break = symbol.Terminal terminal.Break
opener kind.Continue = symbol.Terminal terminal.Continue
opener kind.Return = symbol.Terminal terminal.Return
opener kind.Expression = symbol.Name

-- the kind has a first token of its own
abbrev pub has_opener : StatementKind → Bool
has_opener kind.Expression = false
has_opener _ = true

-- a statement may begin with the token
abbrev pub begins_statement : Leaf → Bool
begins_statement leaf = has_opener (kind_of (symbol_of leaf)) || begins_expression leaf

-- what stands in a block may begin with the token
abbrev pub begins_item : Leaf → Bool
begins_item leaf = is_local_specifier leaf || begins_statement leaf
