-- The grammar of declarations (C11 6.7).
use Rattle.std.specs.Prelude.{Bool, true, false, List, [], ◌∷◌, ◌++◌, Option, None, Some, is_some}
use Rattle.c_grammar_forms.specs.Forms.{Form, Nothing, One, Empty, Skip, Behind, Before, Pair}
use Rattle.c_grammar_forms.specs.Forms.{Then, Node, Shaped, Deeper, Choice, Many, Perhaps, listed}
use Rattle.c_grammar_symbols.specs.declared.words.Terminal.TheVariants as terminal
use Rattle.c_grammar_symbols.specs.declared.symbol.Symbol.{Symbol}
use Rattle.c_grammar_symbols.specs.declared.symbol.Symbol.TheVariants as symbol
use Rattle.c_grammar_symbols.specs.declared.named.NamedType.{NamedType}
use Rattle.c_grammar_symbols.specs.Symbols.{Leaf, symbol_of}
use Rattle.c_grammar_symbols.specs.Sources.{is}
use Rattle.c_grammar_tree.specs.declared.name.Name.{Name}
use Rattle.c_grammar_tree.specs.declared.declaration.Specifier.{Specifier}
use Rattle.c_grammar_tree.specs.declared.declaration.SpecifierKind.TheVariants as kind
use Rattle.c_grammar_tree.specs.declared.declaration.Enumerator.{Enumerator}
use Rattle.c_grammar_tree.specs.declared.declaration.Enumeration.{Enumeration}
use Rattle.c_grammar_tree.specs.declared.declaration.Enumeration.TheVariants as enumeration'
use Rattle.c_grammar_tree.specs.declared.declaration.Specifiers.{Specifiers}
use Rattle.c_grammar_tree.specs.declared.declaration.Array.{Array}
use Rattle.c_grammar_tree.specs.declared.declaration.Initializer.{Initializer}
use Rattle.c_grammar_tree.specs.declared.declaration.Initializer.TheVariants as node
use Rattle.c_grammar_tree.specs.declared.declaration.Declarator.{Declarator}
use Rattle.c_grammar_tree.specs.declared.declaration.Declaration.{Declaration}
use Rattle.c_grammar_tree.specs.Parts.{is_not, is_name, is_local_specifier, is_initializing}
use Rattle.c_grammar_tree.specs.Parts.{is_listed}
use Rattle.c_grammar_tree.specs.Parts.{have_part, have_word, is_keyword, is_no_type}
use Rattle.c_grammar_tree.specs.Nested.{Grammar}
use Rattle.c_grammar_tree.specs.Expressions.{list_of, round_brackets}
unfoldable pub use Rattle.c_grammar_tree.specs.Expressions.{identifier}

-- a word of specifiers
unfoldable pub specifier_at : Symbol → Form Leaf Specifier
specifier_at (symbol.Storage word) =
    Node (λ leaf u. record { kind = kind.Storage word; place = leaf.place }) One
specifier_at (symbol.Specifier word) =
    Node (λ leaf u. record { kind = kind.Other word; place = leaf.place }) One
specifier_at (symbol.TypeWord word) =
    Node (λ leaf u. record { kind = kind.TypeWord word; place = leaf.place }) One
specifier_at _ = Nothing

-- keywords of specifiers, among them some of the words of one type, or none
unfoldable pub keywords : (Leaf → Bool) → Form Leaf (List Specifier)
keywords goes = Shaped have_part (Many (is_keyword goes) (Choice symbol_of specifier_at))

-- keywords of specifiers that are no words of types
unfoldable pub qualifiers : (Leaf → Bool) → Form Leaf (List Specifier)
qualifiers goes = Many (is_no_type goes) (Choice symbol_of specifier_at)

-- words of specifiers, with the enumerated type of the word enum among them
abbrev pub Words : Type 0
Words = List Specifier × Option Enumeration

-- the typedef name that a token is, and the words behind it
abbrev pub typedef_words : NamedType → Leaf → List Specifier → Words
typedef_words named leaf behind =
    (record { kind = kind.TypedefName named; place = leaf.place } ∷ behind, None)

-- the word enum that a token is, the type behind it, and the words behind that
abbrev pub enum_words : Leaf → Enumeration × List Specifier → Words
enum_words leaf parts =
    (record { kind = kind.Enum; place = leaf.place } ∷ parts.1, Some parts.0)

-- a typedef name, or enum and an enumerated type, and keywords that are no words of types
unfoldable pub declared_type_at : Form Leaf Enumeration → (Leaf → Bool) → Symbol → Form Leaf Words
declared_type_at E goes (symbol.TypedefName named) =
    Node (typedef_words named) (Skip (qualifiers goes))
declared_type_at E goes (symbol.Terminal terminal.Enum) =
    Node enum_words (Skip (Pair E (qualifiers goes)))
declared_type_at E goes _ = Nothing

-- behind keywords: nothing, where a word of a type is among them; else such a type
unfoldable pub declared_type : Form Leaf Enumeration → (Leaf → Bool) → Bool → Form Leaf Words
declared_type E goes true = Node (λ leaf u. ([], None)) Empty
declared_type E goes false = Choice symbol_of (declared_type_at E goes)

-- words one behind the other
abbrev pub specifiers_of : Leaf → List Specifier × Words → Specifiers
specifiers_of leaf parts = record {
  words = parts.0 ++ parts.1.0;
  enumeration = parts.1.1;
  place = leaf.place;
}

-- words of specifiers, among them those of one type, or a typedef name, or enum with such an
-- enumerated type; `goes` says which words may stand there (C11 6.7p1 and 6.7.2). A typedef name
-- behind words of a type is none of them
unfoldable pub specifiers : Form Leaf Enumeration → (Leaf → Bool) → Form Leaf Specifiers
specifiers E goes = Node specifiers_of
    (Then (keywords goes) (λ front. declared_type E goes (have_word front)))

-- a tag alone
unfoldable pub tag : Form Leaf Enumeration
tag = Node (λ leaf name. enumeration'.Tag name) identifier

-- "__attribute__" "(" "(" tokens with balanced round brackets ")" ")", an extension of GNU C
unfoldable pub attribute : Form Leaf (Unit {0})
attribute = Skip (Behind (is terminal.LeftParen) (Behind (is terminal.LeftParen)
    (Before round_brackets (is terminal.RightParen))))

-- {attribute}
unfoldable pub attributes : Form Leaf (Unit {0})
attributes = Node (λ leaf us. tt) (Many (is terminal.Attribute) attribute)

-- a comma, or the brace that ends the list and is not taken
unfoldable pub comma_or_end_at : Symbol → Form Leaf (Unit {0})
comma_or_end_at (symbol.Terminal terminal.Comma) = One
comma_or_end_at (symbol.Terminal terminal.RightBrace) = Empty
comma_or_end_at _ = Nothing

-- a part of a list in braces, and the comma behind it, or the brace that ends the list
unfoldable pub element : {T : Type 0} → Form Leaf T → Form Leaf T
element A = Node (λ leaf parts. parts.0) (Pair A (Choice symbol_of comma_or_end_at))

-- "{" [assignment {"," assignment} [","]] "}" (C11 6.7.9; the empty list is of GNU C and C23)
unfoldable pub list : Grammar → Form Leaf Initializer
list G = Node (λ leaf items. node.List items leaf.place)
    (Behind (is terminal.LeftBrace)
    (Before (Many (is_not terminal.RightBrace) (element (Deeper G.assignment)))
    (is terminal.RightBrace)))

-- Word ["=" conditional] (C11 6.7.2.2)
unfoldable pub enumerator : Grammar → Form Leaf Enumerator
enumerator G = Node (λ leaf parts. record { name = parts.0; value = parts.1 })
    (Pair identifier (Perhaps is_initializing (Skip (Deeper G.conditional))))

-- enumerator {"," enumerator} [","], each one level deeper
unfoldable pub enumerators : Grammar → Form Leaf (List Enumerator)
enumerators G = Node listed (Pair (element (Deeper G.enumerator))
    (Many (is_not terminal.RightBrace) (element (Deeper G.enumerator))))

-- "{" enumerators "}"
unfoldable pub enumerator_list : Grammar → Form Leaf (List Enumerator)
enumerator_list G = Behind (is terminal.LeftBrace)
    (Before (enumerators G) (is terminal.RightBrace))

-- a tag, with enumerators or without
abbrev pub tagged : Name × Option (List Enumerator) → Enumeration
tagged (name, None) = enumeration'.Tag name
tagged (name, Some found) = enumeration'.Listed (Some name) found

unfoldable pub enumeration_by : Grammar → Bool → Form Leaf Enumeration
enumeration_by G true = Node (λ leaf parts. tagged parts)
    (Pair identifier (Perhaps (is terminal.LeftBrace) (enumerator_list G)))
enumeration_by G false = Node (λ leaf found. enumeration'.Listed None found) (enumerator_list G)

-- behind "enum": Word, and where braces may stand also [Word] "{" enumerators "}" (C11 6.7.2.2)
unfoldable pub enumeration : Grammar → Bool → Form Leaf Enumeration
enumeration G false = tag
enumeration G true = Choice is_name (enumeration_by G)

-- of a scalar an assignment, of an array a list
unfoldable pub initializer_of : Grammar → Bool → Form Leaf Initializer
initializer_of G false = Node (λ leaf value. node.Scalar value) (Deeper G.assignment)
initializer_of G true = Deeper G.list

-- "[" [conditional] "]" (C11 6.7.6.2)
unfoldable pub array : Grammar → Form Leaf Array
array G = Node (λ leaf length. record { length = length; place = leaf.place })
    (Skip (Before (Perhaps (is_not terminal.RightBracket) (Deeper G.conditional))
    (is terminal.RightBracket)))

-- ["[" [conditional] "]"] {attribute}
unfoldable pub array_part : Grammar → Form Leaf (Option Array × Unit {0})
array_part G = Pair (Perhaps (is terminal.LeftBracket) (array G)) attributes

-- what stands behind a declarator's name
pub record Rest : Type 0 where
  pub array : Option Array
  pub initializer : Option Initializer

-- ["[" [conditional] "]"] {attribute} ["=" initializer]
unfoldable pub declarator_rest : Grammar → Form Leaf Rest
declarator_rest G = Node (λ leaf parts. record { array = parts.0.0; initializer = parts.1 })
    (Then (array_part G) (λ front. Perhaps is_initializing
    (Skip (initializer_of G (is_some front.0)))))

-- a name and what stands behind it
abbrev pub declarator_of : Name × Rest → Declarator
declarator_of parts =
    record { name = parts.0; array = parts.1.array; initializer = parts.1.initializer }

-- Word ["[" [conditional] "]"] {attribute} ["=" initializer] (C11 6.7.6 in part)
unfoldable pub declarator : Grammar → Form Leaf Declarator
declarator G = Node (λ leaf parts. declarator_of parts) (Pair identifier (declarator_rest G))

-- {"," declarator}
unfoldable pub more_declarators : Grammar → Form Leaf (List Declarator)
more_declarators G = Many (is terminal.Comma) (Skip (declarator G))

-- declarator {"," declarator}
unfoldable pub declarators : Grammar → Form Leaf (List Declarator)
declarators G = Node listed (Pair (declarator G) (more_declarators G))

-- the same, where they may be left out
unfoldable pub declarators_by : Grammar → Bool → Form Leaf (List Declarator)
declarators_by G false = declarators G
declarators_by G true = Node list_of (Perhaps (is_not terminal.Semicolon) (declarators G))

-- specifiers [declarator {"," declarator}] ";" in a function: no storage class but register;
-- enumerators only where braces may stand, and only behind these may the declarators be absent
-- (C11 6.7, which lets them be absent behind a struct and a tag alone too)
unfoldable pub declaration_by : Bool → Grammar → Form Leaf Declaration
declaration_by braces G =
    Node (λ leaf parts. record { specifiers = parts.0; declarators = parts.1 })
    (Then (specifiers (enumeration G braces) is_local_specifier)
    (λ front. Before (declarators_by G (is_listed front.enumeration)) (is terminal.Semicolon)))

-- a declaration in a for, and in a block
abbrev pub declaration : Grammar → Form Leaf Declaration
declaration = declaration_by false

abbrev pub block_declaration : Grammar → Form Leaf Declaration
block_declaration = declaration_by true
