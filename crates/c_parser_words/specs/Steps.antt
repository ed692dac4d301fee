-- What single private functions compute. No public clause speaks of it.
use Rattle.std.specs.Prelude.{◌≡◌, ℕ, ◌+◌, Bool, true, false, cond, ◌&&◌, List, [], ◌∷◌, ◌++◌}
use Rattle.std.specs.Prelude.{length, Option, None, Some, MatchOption}
use Rattle.c_grammar_forms.specs.declared.fault.ReadError.{ReadError}
use Rattle.c_grammar_forms.specs.declared.fault.ReadError.TheVariants as fault
use Rattle.c_grammar_forms.specs.Forms.{One, Perhaps}
use Rattle.c_grammar_forms.specs.Reading.{Reads}
use Rattle.c_grammar_symbols.specs.declared.words.Terminal.{Terminal}
use Rattle.c_grammar_symbols.specs.declared.words.TypeWord.{TypeWord}
use Rattle.c_grammar_symbols.specs.declared.words.TypeWord.TheVariants as word
use Rattle.c_grammar_symbols.specs.declared.symbol.Symbol.{Symbol}
use Rattle.c_grammar_symbols.specs.declared.symbol.Symbol.TheVariants as symbol
use Rattle.c_grammar_symbols.specs.Symbols.{Leaf, symbol_of}
use Rattle.c_grammar_symbols.specs.Sources.{GoesOn, leaf_at, is}
use Rattle.c_grammar_tree.specs.declared.declaration.Specifier.{Specifier}
use Rattle.c_grammar_tree.specs.declared.declaration.SpecifierKind.{SpecifierKind}
use Rattle.c_grammar_tree.specs.declared.declaration.SpecifierKind.TheVariants as kind
use Rattle.c_grammar_tree.specs.declared.item.Parameter.{Parameter}
use Rattle.c_grammar_tree.specs.Parts.{has_no, is_part_of_type, points}
use Rattle.c_grammar_tree.specs.Items.{is_only_void}
use Rattle.c_parser_words.specs.declared.words.AllowedStorage.{AllowedStorage}
use Rattle.c_parser_words.specs.Storage.{keeps_on, qualifies}

-- behind the token so many brackets are open, where before it `depth` are; or it closes where none
-- is
abbrev pub DepthBehind : Terminal → Terminal → Leaf → ℕ → Option ℕ → Type 0
DepthBehind opens closes leaf depth answer =
    MatchOption answer ((is closes leaf ≡ true) × (depth ≡ 0))
    (λ more. more + cond (is closes leaf) 1 0 ≡ depth + cond (is opens leaf) 1 0)

-- no word that cannot stand with char
abbrev pub has_no_size : List TypeWord → Bool
has_no_size words = has_no word.Short words && has_no word.Int words && has_no word.Long words

-- the words of a type in a specifier
abbrev pub words_in : SpecifierKind → List TypeWord
words_in (kind.TypeWord word) = word ∷ []
words_in _ = []

-- the words with those of a specifier behind them, which are some of one type
pub record AreGrown (before : List TypeWord) (specifier : SpecifierKind) (after : List TypeWord)
    : Type 0 where
  pub all : after ≡ before ++ words_in specifier
  pub part : is_part_of_type after ≡ true

-- the error names the place of the specifier, with which the words are no part of a type
abbrev pub IsRefused : List TypeWord → SpecifierKind → ℕ → ReadError → Type 0
IsRefused before specifier at (fault.Unexpected i) =
    (i ≡ at) × (is_part_of_type (before ++ words_in specifier) ≡ false)
IsRefused before specifier at (fault.TooDeep i) = ⊥
IsRefused before specifier at fault.OutOfMemory = Unit {0}

-- what a keyword is among specifiers
abbrev pub kind_of : Symbol → Option SpecifierKind
kind_of (symbol.Storage word) = Some (kind.Storage word)
kind_of (symbol.Specifier word) = Some (kind.Other word)
kind_of (symbol.TypeWord word) = Some (kind.TypeWord word)
kind_of _ = None

-- the answer is what the symbol is where it passes the test, and none where it does not
abbrev pub IsKindWhere : (Symbol → Bool) → Symbol → Option SpecifierKind → Type 0
IsKindWhere test symbol answer = MatchOption answer (test symbol ≡ false)
    (λ found. (test symbol ≡ true) × (kind_of symbol ≡ Some found))

-- the answer is what the keyword is among specifiers, and none where they end
abbrev pub IsKind : AllowedStorage → Symbol → Option SpecifierKind → Type 0
IsKind allowed = IsKindWhere (keeps_on allowed)

-- the keyword at this place is one with which specifiers go on, and behind it they end
pub record IsOnly (allowed : AllowedStorage) (leaves : List Leaf) (at : ℕ) (found : SpecifierKind)
    : Type 0 where
  pub goes_on : keeps_on allowed (symbol_of (leaf_at leaves at)) ≡ true
  pub kind : kind_of (symbol_of (leaf_at leaves at)) ≡ Some found
  pub more : GoesOn leaves at
  pub ends : keeps_on allowed (symbol_of (leaf_at leaves (at + 1))) ≡ false

-- the same among those behind a typedef name
abbrev pub IsQualifier : AllowedStorage → Symbol → Option SpecifierKind → Type 0
IsQualifier allowed = IsKindWhere (qualifies allowed)

-- the specifier is char
abbrev pub is_char_kind : SpecifierKind → Bool
is_char_kind (kind.TypeWord word.Char) = true
is_char_kind _ = false

abbrev pub is_char : Specifier → Bool
is_char specifier = is_char_kind specifier.kind

-- a pointer is read, or none, up to this place
abbrev pub HasPointer : Bool → List Leaf → ℕ → Bool → ℕ → Type 0
HasPointer allowed leaves at found behind = (left : ℕ) →
    Reads (λ n. Perhaps (λ leaf. allowed && points (symbol_of leaf)) One)
    (leaf_at leaves) (length leaves) left at (cond found (Some tt) None) behind

-- the parameters are void alone
abbrev pub is_void_alone : List Parameter → Bool
is_void_alone (only ∷ []) = is_only_void only.specifiers.words only.is_pointer only.name
is_void_alone _ = false
