-- What the grammar asks of tokens and of trees, and what it makes of them (C11 6.4 to 6.9).
use Rattle.std.specs.Prelude.{ℕ, ◌+◌, ◌==◌, Bool, true, false, not, ◌&&◌, ◌||◌, nat_le, nat_lt}
use Rattle.std.specs.Prelude.{List, [], ◌∷◌, length, count_by, codes, if◌then◌else◌, Option, None}
use Rattle.std.specs.Prelude.{Some, is_some}
use Rattle.std.specs.List.{filter_map, list_any}
use Rattle.std.specs.Str.{bytes_eq}
use denote.Enum.Bare.{sameb}
use Rattle.c_grammar_symbols.specs.declared.words.Terminal.{Terminal}
use Rattle.c_grammar_symbols.specs.declared.words.Terminal.TheVariants as terminal
use Rattle.c_grammar_symbols.specs.declared.words.TypeWord.{TypeWord}
use Rattle.c_grammar_symbols.specs.declared.words.TypeWord.TheVariants as word
use Rattle.c_grammar_symbols.specs.contracts.words.TypeWord as type_word
use Rattle.c_grammar_symbols.specs.declared.words.StorageWord.TheVariants as storage
use Rattle.c_grammar_symbols.specs.declared.words.SpecifierWord.TheVariants as other_word
use Rattle.c_grammar_symbols.specs.declared.named.NamedType.{NamedType}
use Rattle.c_grammar_symbols.specs.declared.named.Size.{Size}
use Rattle.c_grammar_symbols.specs.declared.named.Size.TheVariants as size
use Rattle.c_grammar_symbols.specs.declared.operators.BinaryOperator.{BinaryOperator}
use Rattle.c_grammar_symbols.specs.declared.operators.BinaryOperator.TheVariants as operator
use Rattle.c_grammar_symbols.specs.declared.operators.AssignmentOperator.TheVariants as assign
use Rattle.c_grammar_symbols.specs.declared.symbol.Symbol.{Symbol}
use Rattle.c_grammar_symbols.specs.declared.symbol.Symbol.TheVariants as symbol
use Rattle.c_grammar_symbols.specs.Symbols.{Leaf, symbol_of}
use Rattle.c_grammar_symbols.specs.Sources.{is}
use Rattle.c_grammar_tree.specs.declared.name.Name.{Name}
use Rattle.c_grammar_tree.specs.declared.expression.Expression.{Expression, out-Expression}
use Rattle.c_grammar_tree.specs.declared.expression.Suffix.{Suffix}
use Rattle.c_grammar_tree.specs.declared.expression.Expression.TheOpen.{Expression-F}
use Rattle.c_grammar_tree.specs.declared.expression.Expression.TheFolds.{fold-Expression}
use Rattle.c_grammar_tree.specs.declared.declaration.Specifier.{Specifier}
use Rattle.c_grammar_tree.specs.declared.declaration.SpecifierKind.TheVariants as kind
use Rattle.c_grammar_tree.specs.declared.declaration.Enumeration.{Enumeration}
use Rattle.c_grammar_tree.specs.declared.declaration.Enumeration.TheVariants as enumeration

-- the token is any but this terminal
abbrev pub is_not : Terminal → Leaf → Bool
is_not unwanted leaf = not (is unwanted leaf)

-- the symbol is an identifier's
abbrev pub names : Symbol → Bool
names symbol.Name = true
names _ = false

-- the token is an identifier (C11 6.4.2); a keyword is none
abbrev pub is_name : Leaf → Bool
is_name leaf = names (symbol_of leaf)

-- the name that the token is
abbrev pub name_of : Leaf → Unit {0} → Name
name_of leaf _ = record { bytes = leaf.bytes; place = leaf.place }

-- how loosely an operator binds: those of one number make one chain (C11 6.5.5 to 6.5.14)
abbrev pub looseness : BinaryOperator → ℕ
looseness operator.Multiply = 1
looseness operator.Divide = 1
looseness operator.Remainder = 1
looseness operator.Add = 2
looseness operator.Subtract = 2
looseness operator.ShiftLeft = 3
looseness operator.ShiftRight = 3
looseness operator.Less = 4
looseness operator.Greater = 4
looseness operator.LessEqual = 4
looseness operator.GreaterEqual = 4
looseness operator.Equal = 5
looseness operator.NotEqual = 5
looseness operator.BitAnd = 6
looseness operator.BitXor = 7
looseness operator.BitOr = 8
looseness operator.LogicalAnd = 9
looseness operator.LogicalOr = 10

-- the loosest of these
abbrev pub loosest : ℕ
loosest = looseness operator.LogicalOr

-- the symbol is an operator of so loose a chain
abbrev pub binds : ℕ → Symbol → Bool
binds rank (symbol.Binary operator) = looseness operator == rank
binds rank _ = false

abbrev pub is_operator : ℕ → Leaf → Bool
is_operator rank leaf = binds rank (symbol_of leaf)

-- the symbol is an operator of assignment
abbrev pub assigns : Symbol → Bool
assigns (symbol.Assign operator) = true
assigns _ = false

abbrev pub is_assignment : Leaf → Bool
is_assignment leaf = assigns (symbol_of leaf)

-- the symbol is ++ or --
abbrev pub steps : Symbol → Bool
steps (symbol.Step operator) = true
steps _ = false

-- the token begins what stands behind the base of a postfix expression
abbrev pub begins_suffix : Leaf → Bool
begins_suffix leaf =
    is terminal.LeftBracket leaf || is terminal.LeftParen leaf || steps (symbol_of leaf)

-- the symbol is a word of a type
abbrev pub types : Symbol → Bool
types (symbol.TypeWord word) = true
types _ = false

abbrev pub is_type_word : Leaf → Bool
is_type_word leaf = types (symbol_of leaf)

-- the symbol is the end of the text
abbrev pub ends : Symbol → Bool
ends symbol.End = true
ends _ = false

abbrev pub is_end : Leaf → Bool
is_end leaf = ends (symbol_of leaf)

-- the symbol is the first of an expression
abbrev pub begins : Symbol → Bool
begins symbol.Name = true
begins (symbol.Number ty value) = true
begins (symbol.Character value) = true
begins (symbol.Step operator) = true
begins (symbol.Binary operator.Add) = true
begins (symbol.Binary operator.Subtract) = true
begins (symbol.Terminal terminal.LeftParen) = true
begins (symbol.Terminal terminal.Tilde) = true
begins (symbol.Terminal terminal.Exclamation) = true
begins _ = false

-- an expression may begin with the token
abbrev pub begins_expression : Leaf → Bool
begins_expression leaf = begins (symbol_of leaf)

-- one layer of an expression: a unary expression (C11 6.5.3)
abbrev pub unary_layer : Expression-F Expression Suffix → Bool
unary_layer (Expression-F.Cast to operand place) = false
unary_layer (Expression-F.Chain place first rest) = false
unary_layer (Expression-F.Conditional test chosen other place) = false
unary_layer (Expression-F.Assignment left operator right place) = false
unary_layer (Expression-F.Comma items place) = false
unary_layer _ = true

-- one layer of an expression: the name, where it is one
abbrev pub name_layer : Expression-F Expression Suffix → Option Name
name_layer (Expression-F.Name name) = Some name
name_layer _ = None

-- one layer of an expression, with an answer for each part: the name __assert_fail in any brackets
abbrev pub assert_layer : Expression-F Bool (Unit {0}) → Bool
assert_layer (Expression-F.Name name) = bytes_eq name.bytes (codes "__assert_fail")
assert_layer (Expression-F.Bracketed inner place) = inner
assert_layer _ = false

abbrev pub is_unary : Expression → Bool
is_unary expression = unary_layer (out-Expression expression)

abbrev pub bare_name : Expression → Option Name
bare_name expression = name_layer (out-Expression expression)

-- the expression is the name __assert_fail, in brackets or not
abbrev pub names_assert : Expression → Bool
names_assert = fold-Expression Bool (Unit {0}) assert_layer (λ suffix. tt)

-- how often a word stands among these
abbrev pub occurrences : TypeWord → List TypeWord → ℕ
occurrences wanted words = count_by (λ found. sameb type_word.the_type found wanted) words

-- at most this often
abbrev pub at_most : ℕ → TypeWord → List TypeWord → Bool
at_most most wanted words = nat_le (occurrences wanted words) most

-- none of these
abbrev pub has_no : TypeWord → List TypeWord → Bool
has_no = at_most 0

-- a sign at most
abbrev pub at_most_one_sign : List TypeWord → Bool
at_most_one_sign words = nat_le (occurrences word.Signed words + occurrences word.Unsigned words) 1

-- none, or some, of the words of one of the integer types or of void, in any order (C11 6.7.2p2):
-- no word but void; none but _Bool; char with at most one sign; short, with or without int and a
-- sign; int with at most one sign; long once or twice, with or without int and a sign; a sign alone
abbrev pub is_part_of_type : List TypeWord → Bool
is_part_of_type words =
    (length words == 1 || has_no word.Void words) && (length words == 1 || has_no word.Bool words)
    && at_most_one_sign words && at_most 1 word.Char words && at_most 1 word.Short words
    && at_most 1 word.Int words && at_most 2 word.Long words
    && (has_no word.Char words
    || (has_no word.Short words && has_no word.Int words && has_no word.Long words))
    && (has_no word.Short words || has_no word.Long words)

-- the words of one of these types
abbrev pub is_type : List TypeWord → Bool
is_type words = is_part_of_type words && not (length words == 0)

-- the word of a type that a word of specifiers is
abbrev pub type_word_of : Specifier → Option TypeWord
type_word_of specifier =
    elim specifier.kind [
      | kind.Storage w ↦ None
      | kind.Other w ↦ None
      | kind.TypeWord w ↦ Some w
      | kind.TypedefName named ↦ None
      | kind.Enum ↦ None
    ]

-- the words of types among specifiers
abbrev pub type_words : List Specifier → List TypeWord
type_words words = filter_map type_word_of words

-- the specifiers have some of the words of one type, or none
abbrev pub have_part : List Specifier → Bool
have_part words = is_part_of_type (type_words words)

-- a specifier is a word of a type
abbrev pub is_word : Specifier → Bool
is_word specifier = is_some (type_word_of specifier)

-- they have a word of a type
abbrev pub have_word : List Specifier → Bool
have_word words = list_any is_word words

-- what the typedef name stands for that a word of specifiers is
abbrev pub named_by : Specifier → Option NamedType
named_by specifier =
    elim specifier.kind [
      | kind.Storage w ↦ None
      | kind.Other w ↦ None
      | kind.TypeWord w ↦ None
      | kind.TypedefName named ↦ Some named
      | kind.Enum ↦ None
    ]

-- what the first typedef name among specifiers stands for
abbrev pub named_among : List Specifier → Option NamedType
named_among [] = None
named_among (found ∷ more) = elim (named_by found) [ None ↦ named_among more | Some t ↦ Some t ]

-- the word is const, or a typedef name that stands for a const type (C11 6.7.3)
abbrev pub is_const_word : Specifier → Bool
is_const_word found = elim found.kind [
  | kind.Storage w ↦ false
  | kind.Other w ↦ elim w [ other_word.Const ↦ true | _ ↦ false ]
  | kind.TypeWord w ↦ false
  | kind.TypedefName named ↦ named.is_const
  | kind.Enum ↦ false
]

-- the specifiers have const among them
abbrev pub have_const : List Specifier → Bool
have_const words = list_any is_const_word words

-- the specifier is this word of a type
abbrev pub is_the_word : TypeWord → Specifier → Bool
is_the_word wanted found = elim found.kind [
  | kind.Storage w ↦ false
  | kind.Other w ↦ false
  | kind.TypeWord w ↦ sameb type_word.the_type w wanted
  | kind.TypedefName named ↦ false
  | kind.Enum ↦ false
]

-- how often it stands among specifiers
abbrev pub times : TypeWord → List Specifier → ℕ
times wanted words = count_by (is_the_word wanted) words

-- how wide the type is that their words name; an enumerated type is int (C11 6.7.2p2 and 6.7.2.2,
-- which leaves the type of an enumerated type to the implementation)
abbrev pub size_of : List Specifier → Size
size_of words =
    if nat_lt 0 (times word.Bool words) then size.Bool
    else if nat_lt 0 (times word.Char words) then size.Char
    else if nat_lt 0 (times word.Short words) then size.Short
    else if nat_lt 1 (times word.Long words) then size.LongLong
    else if nat_lt 0 (times word.Long words) then size.Long
    else size.Int

-- what a name stands for that is declared with these specifiers and typedef (C11 6.7.8p3)
abbrev pub named_type : List Specifier → NamedType
named_type words = elim (named_among words) [
  | None ↦ record {
    size = size_of words;
    is_unsigned = nat_lt 0 (times word.Unsigned words);
    is_const = have_const words;
  }
  | Some named ↦ record named { is_const = have_const words }
]

-- the symbol is a typedef name's
abbrev pub names_type : Symbol → Bool
names_type (symbol.TypedefName named) = true
names_type _ = false

abbrev pub is_typedef_name : Leaf → Bool
is_typedef_name leaf = names_type (symbol_of leaf)

-- the symbol begins a type that is no row of keywords: a typedef name, or the word enum
abbrev pub begins_declared : Symbol → Bool
begins_declared (symbol.TypedefName named) = true
begins_declared (symbol.Terminal terminal.Enum) = true
begins_declared _ = false

abbrev pub is_declared_type : Leaf → Bool
is_declared_type leaf = begins_declared (symbol_of leaf)

-- the token is an identifier, or a typedef name
abbrev pub is_any_name : Leaf → Bool
is_any_name leaf = is_name leaf || is_typedef_name leaf

-- the symbol begins specifiers of any kind
abbrev pub specifies : Symbol → Bool
specifies (symbol.Storage word) = true
specifies (symbol.Specifier word) = true
specifies (symbol.TypeWord word) = true
specifies (symbol.TypedefName named) = true
specifies (symbol.Terminal terminal.Enum) = true
specifies _ = false

abbrev pub is_specifier : Leaf → Bool
is_specifier leaf = specifies (symbol_of leaf)

-- the symbol begins specifiers in a function: no storage class but register (C11 6.7.1)
abbrev pub specifies_locally : Symbol → Bool
specifies_locally (symbol.Storage storage.Register) = true
specifies_locally (symbol.Specifier word) = true
specifies_locally (symbol.TypeWord word) = true
specifies_locally (symbol.TypedefName named) = true
specifies_locally (symbol.Terminal terminal.Enum) = true
specifies_locally _ = false

abbrev pub is_local_specifier : Leaf → Bool
is_local_specifier leaf = specifies_locally (symbol_of leaf)

-- the symbol begins specifiers behind the word typedef: no other storage class (C11 6.7.1p2); void
-- is left out
abbrev pub specifies_in_typedef : Symbol → Bool
specifies_in_typedef (symbol.Specifier word) = true
specifies_in_typedef (symbol.TypeWord word.Void) = false
specifies_in_typedef (symbol.TypeWord word) = true
specifies_in_typedef (symbol.TypedefName named) = true
specifies_in_typedef (symbol.Terminal terminal.Enum) = true
specifies_in_typedef _ = false

abbrev pub is_typedef_specifier : Leaf → Bool
is_typedef_specifier leaf = specifies_in_typedef (symbol_of leaf)

-- a keyword among these specifiers that is not enum
abbrev pub is_keyword : (Leaf → Bool) → Leaf → Bool
is_keyword goes leaf = goes leaf && not (is_declared_type leaf)

-- a keyword among them that is no word of a type
abbrev pub is_no_type : (Leaf → Bool) → Leaf → Bool
is_no_type goes leaf = is_keyword goes leaf && not (is_type_word leaf)

-- the enumerated type has its enumerators with it
abbrev pub is_listed : Option Enumeration → Bool
is_listed (Some (enumeration.Listed tag found)) = true
is_listed _ = false

-- the symbol is the operator = of an initializer
abbrev pub initializes : Symbol → Bool
initializes (symbol.Assign assign.Assign) = true
initializes _ = false

abbrev pub is_initializing : Leaf → Bool
is_initializing leaf = initializes (symbol_of leaf)

-- the symbol is the * of a pointer
abbrev pub points : Symbol → Bool
points (symbol.Binary operator.Multiply) = true
points _ = false

-- the words have char among them
abbrev pub have_char : List Specifier → Bool
have_char words = nat_lt 0 (occurrences word.Char (type_words words))
