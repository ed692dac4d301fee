-- What a token stands for in the grammar (C11 6.4 and, for what is left out, this project's own).
use Rattle.std.specs.Prelude.{ℕ, List, [], map, find, unwrap_or, Option}
use Rattle.std.specs.Str.{bytes_eq}
use Rattle.c_lexer.specs.declared.token.Token.{Token}
use Rattle.c_lexer.specs.declared.token.TokenKind.{TokenKind}
use Rattle.c_lexer.specs.declared.token.TokenKind.TheVariants as kind
use Rattle.c_lexer.specs.Lexemes.{bytes_at}
use Rattle.c_grammar_symbols.specs.declared.words.Terminal.{Terminal as Terminal'}
use Rattle.c_grammar_symbols.specs.declared.words.Terminal.TheVariants as terminal
use Rattle.c_grammar_symbols.specs.declared.symbol.Symbol.{Symbol}
use Rattle.c_grammar_symbols.specs.declared.symbol.Symbol.TheVariants.{End, Name, Number, Character}
use Rattle.c_grammar_symbols.specs.declared.symbol.Symbol.TheVariants.{Text}
use Rattle.c_grammar_symbols.specs.declared.symbol.Symbol.TheVariants.{Terminal, Binary, Assign}
use Rattle.c_grammar_symbols.specs.declared.symbol.Symbol.TheVariants.{Step}
use Rattle.c_grammar_symbols.specs.declared.symbol.Symbol.TheVariants.{Storage, Specifier, TypeWord}
use Rattle.c_grammar_symbols.specs.declared.symbol.Symbol.TheVariants.{Outside, Stray}
use Rattle.c_grammar_symbols.specs.declared.symbol.TheConstants.{WORDS, MARKS}
use Rattle.c_grammar_symbols.specs.Spelling.{spelling_of_binary_operator}
use Rattle.c_grammar_symbols.specs.Spelling.{spelling_of_assignment_operator}
use Rattle.c_grammar_symbols.specs.Spelling.{spelling_of_step_operator, spelling_of_storage_word}
use Rattle.c_grammar_symbols.specs.Spelling.{spelling_of_specifier_word, spelling_of_type_word}
use Rattle.c_grammar_symbols.specs.Spelling.{spelling_of_outside_word, spelling_of_terminal}
use Rattle.c_grammar_symbols.specs.Spelling.{spelling_of_stray_mark}

-- a token: what it stands for, its bytes and the place where it stands
pub record Leaf : Type 0 where
  pub symbol : Symbol
  pub bytes : List ℕ
  pub place : ℕ

-- how a symbol is spelled that has one spelling
abbrev pub spelling_of : Symbol → List ℕ
spelling_of (Terminal terminal) = spelling_of_terminal terminal
spelling_of (Binary operator) = spelling_of_binary_operator operator
spelling_of (Assign operator) = spelling_of_assignment_operator operator
spelling_of (Step operator) = spelling_of_step_operator operator
spelling_of (Storage word) = spelling_of_storage_word word
spelling_of (Specifier word) = spelling_of_specifier_word word
spelling_of (TypeWord word) = spelling_of_type_word word
spelling_of (Outside word) = spelling_of_outside_word word
spelling_of (Stray mark) = spelling_of_stray_mark mark
spelling_of _ = []

-- of which kind the token of a terminal is
abbrev pub kind_of_terminal : Terminal' → TokenKind
kind_of_terminal terminal.If = kind.Word
kind_of_terminal terminal.Else = kind.Word
kind_of_terminal terminal.While = kind.Word
kind_of_terminal terminal.Do = kind.Word
kind_of_terminal terminal.For = kind.Word
kind_of_terminal terminal.Goto = kind.Word
kind_of_terminal terminal.Break = kind.Word
kind_of_terminal terminal.Continue = kind.Word
kind_of_terminal terminal.Return = kind.Word
kind_of_terminal terminal.Typedef = kind.Word
kind_of_terminal terminal.Enum = kind.Word
kind_of_terminal terminal.Switch = kind.Word
kind_of_terminal terminal.Case = kind.Word
kind_of_terminal terminal.Default = kind.Word
kind_of_terminal terminal.Attribute = kind.Word
kind_of_terminal _ = kind.Mark

-- the word of the table that is spelled so; that the tables lack none is a law
-- (`keywords_stand_for_themselves`)
unfoldable pub word_spelled : List ℕ → Option Symbol
word_spelled bytes = find (λ symbol. bytes_eq (spelling_of symbol) bytes) WORDS

-- the mark of the table that is spelled so
unfoldable pub mark_spelled : List ℕ → Option Symbol
mark_spelled bytes = find (λ symbol. bytes_eq (spelling_of symbol) bytes) MARKS

-- what a token of this kind stands for that is spelled so; a word that is not in the table is a
-- name. A mark that is not in the table is none of C's (`marks_are_no_text`)
abbrev pub symbol_spelled : TokenKind → List ℕ → Symbol
symbol_spelled kind.Word bytes = unwrap_or (word_spelled bytes) Name
symbol_spelled (kind.Number ty value) bytes = Number ty value
symbol_spelled (kind.Character value) bytes = Character value
symbol_spelled kind.Text bytes = Text
symbol_spelled kind.Mark bytes = unwrap_or (mark_spelled bytes) Text
symbol_spelled kind.End bytes = End

-- what a token stands for
abbrev pub symbol_of : Leaf → Symbol
symbol_of leaf = leaf.symbol

-- a token of the text with its bytes and its place, and what it stands for where no name is
-- declared
abbrev pub leaf_of : List ℕ → Token → Leaf
leaf_of text token = record {
  symbol = symbol_spelled token.kind (bytes_at text token);
  bytes = bytes_at text token;
  place = token.from;
}

-- the text's tokens so
abbrev pub leaves : List ℕ → List Token → List Leaf
leaves text tokens = map (leaf_of text) tokens
