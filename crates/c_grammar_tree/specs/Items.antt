-- The grammar of items (C11 6.9).
use Rattle.std.specs.Prelude.{ℕ, Bool, true, false, not, ◌&&◌, List, [], ◌∷◌, Option, None, Some}
use Rattle.std.specs.Prelude.{codes, map}
use Rattle.std.specs.List.{list_any, flat_map}
use Rattle.std.specs.Str.{bytes_eq}
use Rattle.c_grammar_forms.specs.Forms.{Form, Nothing, One, Such, Skip, Before, Pair, Then, Node}
use Rattle.c_grammar_forms.specs.Forms.{Deeper, Choice, Many, ManySeen, Perhaps, Balanced, listed}
use Rattle.c_grammar_symbols.specs.declared.words.Terminal.TheVariants as terminal
use Rattle.c_grammar_symbols.specs.declared.words.TypeWord.TheVariants as word
use Rattle.c_grammar_symbols.specs.declared.symbol.Symbol.{Symbol}
use Rattle.c_grammar_symbols.specs.declared.symbol.Symbol.TheVariants as symbol
use Rattle.c_grammar_symbols.specs.Symbols.{Leaf, symbol_of}
use Rattle.c_grammar_symbols.specs.declared.named.NamedType.{NamedType}
use Rattle.c_grammar_symbols.specs.Sources.{is, renamed}
use Rattle.c_grammar_tree.specs.declared.name.Name.{Name}
use Rattle.c_grammar_tree.specs.declared.declaration.Specifier.{Specifier}
use Rattle.c_grammar_tree.specs.declared.declaration.SpecifierKind.{SpecifierKind}
use Rattle.c_grammar_tree.specs.declared.declaration.SpecifierKind.TheVariants as kind
use Rattle.c_grammar_tree.specs.declared.declaration.Specifiers.{Specifiers}
use Rattle.c_grammar_tree.specs.declared.declaration.Declarator.{Declarator}
use Rattle.c_grammar_tree.specs.declared.statement.BlockItem.{BlockItem}
use Rattle.c_grammar_tree.specs.declared.item.Parameter.{Parameter}
use Rattle.c_grammar_tree.specs.declared.item.Parameters.{Parameters}
use Rattle.c_grammar_tree.specs.declared.item.Parameters.TheVariants as parameters
use Rattle.c_grammar_tree.specs.declared.item.Body.{Body}
use Rattle.c_grammar_tree.specs.declared.item.Body.TheVariants as body
use Rattle.c_grammar_tree.specs.declared.item.Item.{Item}
use Rattle.c_grammar_tree.specs.declared.item.Item.TheVariants as node
use Rattle.c_grammar_tree.specs.Parts.{is_not, is_name, name_of, is_any_name, is_end, points}
use Rattle.c_grammar_tree.specs.Parts.{is_specifier, is_typedef_specifier, have_char, named_type}
use Rattle.c_grammar_tree.specs.Parts.{is_listed}
use Rattle.c_grammar_tree.specs.Nested.{Grammar}
use Rattle.c_grammar_tree.specs.Declarations.{identifier, tag, enumeration, specifiers, attributes}
use Rattle.c_grammar_tree.specs.Declarations.{Rest}
use Rattle.c_grammar_tree.specs.Declarations.{declarator_of}
use Rattle.c_grammar_tree.specs.Declarations.{declarator_rest, more_declarators}
use Rattle.c_grammar_tree.specs.Statements.{block_items}

-- functions whose meaning the checker gives itself, this project's own (the names are SV-COMP's):
-- what a text says of them in a body is skipped
abbrev pub known_functions : List (List ℕ)
known_functions = codes "reach_error" ∷ codes "abort" ∷ codes "exit" ∷ codes "__assert_fail" ∷
    codes "__VERIFIER_nondet_bool" ∷ codes "__VERIFIER_nondet_char" ∷
    codes "__VERIFIER_nondet_uchar" ∷ codes "__VERIFIER_nondet_short" ∷
    codes "__VERIFIER_nondet_ushort" ∷ codes "__VERIFIER_nondet_int" ∷
    codes "__VERIFIER_nondet_uint" ∷ codes "__VERIFIER_nondet_long" ∷
    codes "__VERIFIER_nondet_ulong" ∷
    codes "__VERIFIER_nondet_longlong" ∷ codes "__VERIFIER_nondet_ulonglong" ∷ []

unfoldable pub is_known : Name → Bool
is_known name = list_any (bytes_eq name.bytes) known_functions

-- a pointer or not
abbrev pub points_or_not : Option (Unit {0}) → Bool
points_or_not None = false
points_or_not (Some u) = true

-- specifiers [pointer] [Word]; a pointer only behind char (C11 6.7.6 in part)
unfoldable pub parameter : Form Leaf Parameter
parameter = Node (λ leaf parts.
    record { specifiers = parts.0; is_pointer = points_or_not parts.1.0; name = parts.1.1 })
    (Then (specifiers tag is_specifier)
    (λ front. Pair (Perhaps (λ leaf. have_char front.words && points (symbol_of leaf)) One)
    (Perhaps is_name identifier)))

abbrev pub is_void : SpecifierKind → Bool
is_void (kind.TypeWord word.Void) = true
is_void _ = false

-- the one word void, without a name
abbrev pub is_only_void : List Specifier → Bool → Option Name → Bool
is_only_void (only ∷ []) false None = is_void only.kind
is_only_void _ _ _ = false

-- ( void ) is no parameter (C11 6.7.6.3p10). A list that is there is never empty
abbrev pub parameters_of : Option (List Parameter) → Parameters
parameters_of None = parameters.Unspecified
parameters_of (Some []) = parameters.Listed []
parameters_of (Some (first ∷ [])) =
    elim (is_only_void first.specifiers.words first.is_pointer first.name)
    [ true ↦ parameters.Void | false ↦ parameters.Listed (first ∷ []) ]
parameters_of (Some (first ∷ second ∷ more)) = parameters.Listed (first ∷ second ∷ more)

-- parameter {"," parameter}, one level deeper
unfoldable pub parameter_list : Form Leaf (List Parameter)
parameter_list =
    Node listed (Pair (Deeper parameter) (Many (is terminal.Comma) (Skip (Deeper parameter))))

-- "(" [void ; parameter {"," parameter}] ")" {attribute} behind a name (C11 6.7.6.3)
unfoldable pub function_rest : Form Leaf Parameters
function_rest = Node (λ leaf parts. parameters_of parts.0)
    (Skip (Pair (Before (Perhaps (is_not terminal.RightParen) parameter_list)
    (is terminal.RightParen)) attributes))

-- a parameter is a pointer
abbrev pub have_pointer : Parameters → Bool
have_pointer (parameters.Listed listed) = list_any (λ parameter. parameter.is_pointer) listed
have_pointer _ = false

-- the tokens in the braces of a known function's body, behind the brace that opens
unfoldable pub skipped_body : Form Leaf (Unit {0})
skipped_body = Balanced (is terminal.LeftBrace) (is terminal.RightBrace) is_end

-- "}", by its place
unfoldable pub closing_brace : Form Leaf ℕ
closing_brace = Node (λ leaf u. leaf.place) (Such (is terminal.RightBrace))

-- {item} "}", with the place of the brace
unfoldable pub closed_items : Grammar → Form Leaf (List BlockItem × ℕ)
closed_items G = Pair (block_items G) closing_brace

-- "{" {item} "}", or of a known function any tokens with balanced braces
unfoldable pub body_of : Grammar → Bool → Form Leaf Body
body_of G true = Node (λ leaf u. body.Skipped) (Skip skipped_body)
body_of G false =
    Node (λ leaf parts. body.Block parts.0 leaf.place parts.1) (Skip (closed_items G))

-- behind a function's declarator: ";" of a prototype ; a body, where no parameter is a pointer
unfoldable pub function_end_at : Grammar → Name → Bool → Symbol → Form Leaf (Option Body)
function_end_at G name pointer (symbol.Terminal terminal.Semicolon) = Node (λ leaf u. None) One
function_end_at G name false (symbol.Terminal terminal.LeftBrace) =
    Node (λ leaf made. Some made) (body_of G (is_known name))
function_end_at G name _ _ = Nothing

-- what stands behind the name of an item: a function's parameters and end, or what declares objects
pub data Named : Type 0 where
  function : Parameters → Option Body → Named
  objects : Rest → List Declarator → Named

-- behind the name of an item: no function where the specifiers have enumerators
unfoldable pub named_at : Grammar → Bool → Name → Symbol → Form Leaf Named
named_at G false name (symbol.Terminal terminal.LeftParen) =
    Node (λ leaf parts. function parts.0 parts.1)
    (Then function_rest (λ found. Choice symbol_of (function_end_at G name (have_pointer found))))
named_at G _ name _ = Node (λ leaf parts. objects parts.0 parts.1)
    (Before (Pair (declarator_rest G) (more_declarators G)) (is terminal.Semicolon))

-- what is declared: nothing, or what stands behind a name
abbrev pub declared_of : Specifiers → Option (Name × Named) → Item
declared_of front None = node.Objects (record { specifiers = front; declarators = [] })
declared_of front (Some (name, function found None)) =
    node.Prototype front (record { name = name; parameters = found })
declared_of front (Some (name, function found (Some made))) =
    node.Function front (record { name = name; parameters = found }) made
declared_of front (Some (name, objects rest more)) =
    node.Objects (record { specifiers = front; declarators = declarator_of (name, rest) ∷ more })

-- behind the specifiers of an item: ";" ; a name and what stands behind it
unfoldable pub declared_at : Grammar → Bool → Symbol → Form Leaf (Option (Name × Named))
declared_at G braces (symbol.Terminal terminal.Semicolon) = Node (λ leaf u. None) One
declared_at G braces symbol.Name = Node (λ leaf parts. Some parts)
    (Then identifier (λ name. Choice symbol_of (named_at G braces name)))
declared_at G braces _ = Nothing

-- a name that is to be a typedef name, which it may be already
unfoldable pub typedef_name : Form Leaf Name
typedef_name = Node name_of (Such is_any_name)

-- name {"," name}
unfoldable pub typedef_names : Form Leaf (List Name)
typedef_names = Node listed (Pair typedef_name (Many (is terminal.Comma) (Skip typedef_name)))

-- ";" ; "typedef" specifiers name {"," name} ";" ; specifiers [declarator {"," declarator}] ";" ;
-- specifiers function ";" ; specifiers function body (C11 6.9, and 6.7.8 in part)
unfoldable pub unit_item_at : Grammar → Symbol → Form Leaf Item
unit_item_at G (symbol.Terminal terminal.Semicolon) = Node (λ leaf u. node.Empty leaf.place) One
unit_item_at G (symbol.Terminal terminal.Typedef) =
    Node (λ leaf parts. node.Typedef parts.0 parts.1 leaf.place)
    (Skip (Pair (specifiers (enumeration G true) is_typedef_specifier)
    (Before typedef_names (is terminal.Semicolon))))
unit_item_at G _ = Node (λ leaf parts. declared_of parts.0 parts.1)
    (Then (specifiers (enumeration G true) is_specifier)
    (λ front. Choice symbol_of (declared_at G (is_listed front.enumeration))))

unfoldable pub unit_item : Grammar → Form Leaf Item
unit_item G = Choice symbol_of (unit_item_at G)

-- the names that an item makes typedef names, and what they stand for (C11 6.7.8p3)
abbrev pub typedefs_in : Item → List (List ℕ × NamedType)
typedefs_in (node.Typedef front declared place) =
    map (λ name. (name.bytes, named_type front.words)) declared
typedefs_in _ = []

-- a token, seen behind these declarations of typedef names
abbrev pub behind_typedefs : List (List ℕ × NamedType) → Leaf → Leaf
behind_typedefs [] leaf = leaf
behind_typedefs (one ∷ more) leaf = behind_typedefs more (renamed one.0 one.1 leaf)

-- a token, seen behind these items: a name that one of them declares with typedef is a typedef name
-- (C11 6.2.1p7), and it stays one. Within an item this makes no difference
abbrev pub seen_behind : List Item → Leaf → Leaf
seen_behind items = behind_typedefs (flat_map typedefs_in items)

-- {item} before the end, each read in the text as it is seen behind the items before it
abbrev pub unit_items_behind : Grammar → List Item → Form Leaf (List Item)
unit_items_behind G = ManySeen seen_behind (λ leaf. not (is_end leaf)) (unit_item G)

-- {item} End (C11 6.9)
unfoldable pub unit_items : Grammar → Form Leaf (List Item)
unit_items G = Before (unit_items_behind G []) is_end
