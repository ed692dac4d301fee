-- The tokens of a text as a reader sees them (this project's own).
use Rattle.std.specs.Prelude.{◌≡◌, ℕ, ◌+◌, ◌<◌, ◌≤◌, ◌^◌, Bool, true, false, List, [], length, Some}
use Rattle.std.specs.Prelude.{slice_index_or, cond, Option, None}
use Rattle.std.specs.List.{slice_get}
use Rattle.std.specs.Str.{bytes_eq}
use Rattle.std.specs.declared.vec.Vec.{Vec}
use Rattle.std.specs.HashMap.{HashMap, get_by}
use denote.Enum.Bare.{sameb}
use Rattle.c_lexer.specs.declared.token.Token.{Token}
use Rattle.c_lexer.specs.Lexemes.{EndsOnce}
use Rattle.c_grammar_forms.specs.declared.fault.ReadError.{ReadError}
use Rattle.c_grammar_forms.specs.declared.fault.ReadError.TheVariants.{Unexpected}
use Rattle.c_grammar_symbols.specs.declared.named.NamedType.{NamedType}
use Rattle.c_grammar_symbols.specs.declared.words.Terminal.{Terminal}
use Rattle.c_grammar_symbols.specs.contracts.words.Terminal as terminal
use Rattle.c_grammar_symbols.specs.declared.symbol.Symbol.{Symbol}
use Rattle.c_grammar_symbols.specs.declared.symbol.Symbol.TheVariants as symbol
use Rattle.c_grammar_symbols.specs.declared.kind.SymbolKind.{SymbolKind}
use Rattle.c_grammar_symbols.specs.Symbols.{Leaf, symbol_of}
use Rattle.c_grammar_symbols.specs.Kinds.{kinds_of}

-- the end, which stands wherever no token does
abbrev pub nowhere : Leaf
nowhere = record { symbol = symbol.End; bytes = []; place = 0 }

-- the token at a place
abbrev pub leaf_at : List Leaf → ℕ → Leaf
leaf_at leaves place = slice_index_or leaves place nowhere

-- the type of a name by a table
abbrev pub type_named : {A S : Type 0} → HashMap (Vec ℕ A) NamedType S → List ℕ → Option NamedType
type_named types name = get_by (λ key. bytes_eq name key.items) types

-- what a symbol is where the names of its spelling have this type, or none
abbrev pub named_symbol : Symbol → Option NamedType → Symbol
named_symbol symbol.Name (Some ty) = symbol.TypedefName ty
named_symbol symbol _ = symbol

-- a token, seen where names have these types
abbrev pub seen_by : (List ℕ → Option NamedType) → Leaf → Leaf
seen_by types leaf = record leaf { symbol = named_symbol leaf.symbol (types leaf.bytes) }

-- the type of a name that is given one, unless it has one
abbrev pub or_only : List ℕ → NamedType → List ℕ → Option NamedType → Option NamedType
or_only name ty other (Some held) = Some held
or_only name ty other None = cond (bytes_eq name other) (Some ty) None

-- a token, seen behind the declaration of a typedef name: a name of its spelling is one, and no
-- other token is (C11 6.7.8p3)
abbrev pub renamed : List ℕ → NamedType → Leaf → Leaf
renamed name ty = seen_by (λ other. cond (bytes_eq name other) (Some ty) None)

-- the tokens lie in the text, and the last one, and no other, is its end
pub record IsSource (text : List ℕ) (tokens : List Token) : Type 0 where
  pub within : (i : ℕ) (token : Token) → slice_get tokens i ≡ Some token →
      (token.from ≤ token.to) × (token.to ≤ length text)
  pub ends : EndsOnce text tokens

-- what stands beside the tokens is the kinds of their symbols
pub record IsKept (text : List ℕ) (tokens : List Token) (kinds : List SymbolKind) : Type 0 where
  pub source : IsSource text tokens
  pub kinds_are : kinds ≡ kinds_of text tokens

-- two terminals are one
abbrev pub same_terminal : Terminal → Terminal → Bool
same_terminal = sameb terminal.the_type

-- the symbol is this terminal
abbrev pub is_terminal : Terminal → Symbol → Bool
is_terminal wanted (symbol.Terminal found) = same_terminal found wanted
is_terminal wanted _ = false

-- the token is this terminal
abbrev pub is : Terminal → Leaf → Bool
is wanted leaf = is_terminal wanted (symbol_of leaf)

-- another token stands behind this place, and its number fits a `usize`
pub record GoesOn (leaves : List Leaf) (at : ℕ) : Type 0 where
  pub within : at + 1 < length leaves
  pub fits : at + 1 < 2 ^ 64

-- the terminal stands here, and the text goes on behind it
pub record Takes (leaves : List Leaf) (at : ℕ) (wanted : Terminal) (behind : ℕ) : Type 0 where
  pub passes : is wanted (leaf_at leaves at) ≡ true
  pub behind_it : behind ≡ at + 1
  pub within : behind < length leaves

-- the terminal does not stand here, where another token is
pub record Lacks (leaves : List Leaf) (at : ℕ) (wanted : Terminal) (error : ReadError) : Type 0
  where
    pub fails : is wanted (leaf_at leaves at) ≡ false
    pub named : error ≡ Unexpected at
