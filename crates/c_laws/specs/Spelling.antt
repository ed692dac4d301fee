-- What a tree spells: the tokens that it keeps, in order, and which tokens it leaves out where
-- (this project's own, over the grammar of C11 6.5, 6.7, 6.8, 6.9).
use Rattle.std.specs.Prelude.{◌≡◌, ◌⊎◌, ℕ, ◌+◌, Bool, true, false, List, [], ◌∷◌, ◌++◌, length}
use Rattle.std.specs.Prelude.{Option, None, Some}
use Rattle.c_lexer.specs.declared.token.Token.{Token}
use Rattle.c_grammar_symbols.specs.declared.words.Terminal.{Terminal}
use Rattle.c_grammar_symbols.specs.declared.words.Terminal.TheVariants as terminal
use Rattle.c_grammar_symbols.specs.declared.words.TypeWord.TheVariants as type_word
use Rattle.c_grammar_symbols.specs.declared.operators.BinaryOperator.{BinaryOperator}
use Rattle.c_grammar_symbols.specs.declared.operators.BinaryOperator.TheVariants as binary
use Rattle.c_grammar_symbols.specs.declared.operators.AssignmentOperator.TheVariants as assign
use Rattle.c_grammar_symbols.specs.declared.symbol.Symbol.{Symbol}
use Rattle.c_grammar_symbols.specs.declared.symbol.Symbol.TheVariants as symbol
use Rattle.c_grammar_symbols.specs.Symbols.{Leaf, symbol_of, leaves}
use Rattle.c_grammar_symbols.specs.Sources.{leaf_at}
use Rattle.c_grammar_tree.specs.declared.name.Name.{Name}
use Rattle.c_grammar_tree.specs.declared.expression.Expression.{Expression}
use Rattle.c_grammar_tree.specs.declared.expression.Expression.TheOpen.{Expression-F, Suffix-F}
use Rattle.c_grammar_tree.specs.declared.expression.Expression.TheFolds.{fold-Expression}
use Rattle.c_grammar_tree.specs.declared.expression.Expression.TheFolds.{fold-Suffix}
use Rattle.c_grammar_tree.specs.declared.expression.Suffix.{Suffix}
use Rattle.c_grammar_tree.specs.declared.expression.TypeName.{TypeName}
use Rattle.c_grammar_tree.specs.declared.expression.TypeName.TheVariants as type_name
use Rattle.c_grammar_tree.specs.declared.expression.UnaryOperator.{UnaryOperator}
use Rattle.c_grammar_tree.specs.declared.expression.UnaryOperator.TheVariants as unary_operator
use Rattle.c_grammar_tree.specs.declared.declaration.Specifier.{Specifier}
use Rattle.c_grammar_tree.specs.declared.declaration.SpecifierKind.{SpecifierKind}
use Rattle.c_grammar_tree.specs.declared.declaration.SpecifierKind.TheVariants as kind
use Rattle.c_grammar_tree.specs.declared.declaration.Enumerator.{Enumerator}
use Rattle.c_grammar_tree.specs.declared.declaration.Enumeration.{Enumeration}
use Rattle.c_grammar_tree.specs.declared.declaration.Enumeration.TheVariants as enumeration
use Rattle.c_grammar_tree.specs.declared.declaration.Specifiers.{Specifiers}
use Rattle.c_grammar_tree.specs.declared.declaration.Array.{Array}
use Rattle.c_grammar_tree.specs.declared.declaration.Initializer.{Initializer}
use Rattle.c_grammar_tree.specs.declared.declaration.Initializer.TheVariants as initializer
use Rattle.c_grammar_tree.specs.declared.declaration.Declarator.{Declarator}
use Rattle.c_grammar_tree.specs.declared.declaration.Declaration.{Declaration}
use Rattle.c_grammar_tree.specs.declared.statement.Statement.{Statement}
use Rattle.c_grammar_tree.specs.declared.statement.ForStart.{ForStart}
use Rattle.c_grammar_tree.specs.declared.statement.ForStart.TheVariants as start
use Rattle.c_grammar_tree.specs.declared.statement.BlockItem.{BlockItem}
use Rattle.c_grammar_tree.specs.declared.statement.BlockItem.TheOpen.{BlockItem-F, Statement-F}
use Rattle.c_grammar_tree.specs.declared.statement.BlockItem.TheFolds.{fold-BlockItem}
use Rattle.c_grammar_tree.specs.declared.statement.BlockItem.TheFolds.{fold-Statement}
use Rattle.c_grammar_tree.specs.declared.item.Parameter.{Parameter}
use Rattle.c_grammar_tree.specs.declared.item.Parameters.{Parameters}
use Rattle.c_grammar_tree.specs.declared.item.Parameters.TheVariants as parameters
use Rattle.c_grammar_tree.specs.declared.item.Body.{Body}
use Rattle.c_grammar_tree.specs.declared.item.Body.TheVariants as body
use Rattle.c_grammar_tree.specs.declared.item.Item.{Item}
use Rattle.c_grammar_tree.specs.declared.item.Item.TheVariants as item
use Rattle.c_grammar_tree.specs.declared.item.Unit.{Unit as UnitTree}
use Rattle.c_grammar_tree.specs.Parts.{name_of, is_any_name}
use Rattle.c_grammar_tree.specs.Expressions.{round_brackets}
use Rattle.c_grammar_tree.specs.Declarations.{attributes}
use Rattle.c_grammar_tree.specs.Items.{skipped_body, seen_behind}
use Rattle.c_laws.specs.Plain.{plain_text}

-- a piece of a spelling
pub data Piece : Type 0 where
  -- no token: the next one stands at this place
  placed : ℕ → Piece
  -- a token that stands for this symbol
  token : Symbol → Piece
  -- the identifier that this name is
  named : Name → Piece
  -- the identifier or the typedef name that this name is
  any_named : Name → Piece
  -- a comma, or none
  comma_or_not : Piece
  -- none or more attributes
  any_attributes : Piece
  -- the tokens up to the round bracket that closes them, and this one
  any_arguments : Piece
  -- the tokens up to the brace that closes them, and this one
  any_body : Piece

-- the tokens from p up to q are this piece. Those that a tree leaves out are what the grammar says,
-- in which no level is looked at
abbrev pub Stands : (ℕ → Leaf) → Piece → ℕ → ℕ → Type 0
Stands at (placed place) p q = ((at p).place ≡ place) × (q ≡ p)
Stands at (token symbol) p q = (symbol_of (at p) ≡ symbol) × (q ≡ p + 1)
Stands at (named name) p q =
    (symbol_of (at p) ≡ symbol.Name) × (name_of (at p) tt ≡ name) × (q ≡ p + 1)
Stands at (any_named name) p q =
    (is_any_name (at p) ≡ true) × (name_of (at p) tt ≡ name) × (q ≡ p + 1)
Stands at comma_or_not p q =
    (q ≡ p) ⊎ ((symbol_of (at p) ≡ symbol.Terminal terminal.Comma) × (q ≡ p + 1))
Stands at any_attributes p q = attributes (plain_text at 0) 0 p tt q
Stands at any_arguments p q = round_brackets (plain_text at 0) 0 p tt q
Stands at any_body p q = skipped_body (plain_text at 0) 0 p tt q

-- the tokens from p up to q are these pieces, one behind the other
unfoldable pub Spells : (ℕ → Leaf) → List Piece → ℕ → ℕ → Type 0
Spells at [] p q = q ≡ p
Spells at (piece ∷ pieces) p q = (m : ℕ) × (Stands at piece p m × Spells at pieces m q)

-- a terminal
abbrev pub mark : Terminal → Piece
mark t = token (symbol.Terminal t)

-- parts one behind the other
abbrev pub in_order : {T : Type 0} → (T → List Piece) → List T → List Piece
in_order spell [] = []
in_order spell (part ∷ parts) = spell part ++ in_order spell parts

-- parts with commas between them
abbrev pub listed : {T : Type 0} → (T → List Piece) → List T → List Piece
listed spell [] = []
listed spell (part ∷ parts) =
    spell part ++ in_order (λ other. mark terminal.Comma ∷ spell other) parts

-- parts with a comma behind each, which may be left out behind the last
abbrev pub ended : {T : Type 0} → (T → List Piece) → List T → List Piece
ended spell [] = []
ended spell (part ∷ []) = spell part ++ comma_or_not ∷ []
ended spell (part ∷ other ∷ parts) =
    spell part ++ mark terminal.Comma ∷ ended spell (other ∷ parts)

-- a part or none
abbrev pub optional : {T : Type 0} → (T → List Piece) → Option T → List Piece
optional spell None = []
optional spell (Some part) = spell part

-- a part that is spelled already
abbrev pub itself : List Piece → List Piece
itself pieces = pieces

abbrev pub symbol_of_sign : UnaryOperator → Symbol
symbol_of_sign unary_operator.Plus = symbol.Binary binary.Add
symbol_of_sign unary_operator.Minus = symbol.Binary binary.Subtract
symbol_of_sign unary_operator.Complement = symbol.Terminal terminal.Tilde
symbol_of_sign unary_operator.Not = symbol.Terminal terminal.Exclamation

abbrev pub spelled_type_name : TypeName → List Piece
spelled_type_name (type_name.Words words place) =
    placed place ∷ in_order (λ word. token (symbol.TypeWord word) ∷ []) words
spelled_type_name (type_name.Typedef held place) =
    placed place ∷ token (symbol.TypedefName held) ∷ []
spelled_type_name (type_name.Enum tag place) =
    placed place ∷ mark terminal.Enum ∷ named tag ∷ []

-- an operator and the operand behind it
abbrev pub operated : {T : Type 0} → (T → List Piece) → BinaryOperator × T → List Piece
operated spell operand = token (symbol.Binary operand.0) ∷ spell operand.1

-- one layer of an expression, whose parts are spelled already (C11 6.5)
abbrev pub expression_layer : Expression-F (List Piece) (List Piece) → List Piece
expression_layer (Expression-F.Name name) = named name ∷ []
expression_layer (Expression-F.Number ty value place) =
    placed place ∷ token (symbol.Number ty value) ∷ []
expression_layer (Expression-F.Character value place) =
    placed place ∷ token (symbol.Character value) ∷ []
expression_layer (Expression-F.Bracketed inner place) =
    placed place ∷ mark terminal.LeftParen ∷ (inner ++ mark terminal.RightParen ∷ [])
expression_layer (Expression-F.Postfix place base suffixes) =
    placed place ∷ (base ++ in_order itself suffixes)
expression_layer (Expression-F.PrefixStep operator operand place) =
    placed place ∷ token (symbol.Step operator) ∷ operand
expression_layer (Expression-F.Unary operator operand place) =
    placed place ∷ token (symbol_of_sign operator) ∷ operand
expression_layer (Expression-F.Cast to operand place) =
    placed place ∷ mark terminal.LeftParen ∷
    ((spelled_type_name to ++ mark terminal.RightParen ∷ []) ++ operand)
expression_layer (Expression-F.Chain place first rest) =
    placed place ∷ (first ++ in_order (operated itself) rest)
expression_layer (Expression-F.Conditional test chosen other place) =
    placed place ∷ (test ++ mark terminal.Question ∷
    ((chosen ++ mark terminal.Colon ∷ []) ++ other))
expression_layer (Expression-F.Assignment left operator right place) =
    placed place ∷ (left ++ token (symbol.Assign operator) ∷ right)
expression_layer (Expression-F.Comma items place) = placed place ∷ listed itself items

-- one layer of a suffix (C11 6.5.2)
abbrev pub suffix_layer : Suffix-F (List Piece) (List Piece) → List Piece
suffix_layer (Suffix-F.Index index place) =
    placed place ∷ mark terminal.LeftBracket ∷ (index ++ mark terminal.RightBracket ∷ [])
suffix_layer (Suffix-F.Call arguments place) =
    placed place ∷ mark terminal.LeftParen ∷
    (listed itself arguments ++ mark terminal.RightParen ∷ [])
suffix_layer (Suffix-F.Step operator place) = placed place ∷ token (symbol.Step operator) ∷ []
suffix_layer (Suffix-F.Skipped place) =
    placed place ∷ mark terminal.LeftParen ∷ any_arguments ∷ []

abbrev pub spelled_expression : Expression → List Piece
spelled_expression = fold-Expression (List Piece) (List Piece) expression_layer suffix_layer

abbrev pub spelled_suffix : Suffix → List Piece
spelled_suffix = fold-Suffix (List Piece) (List Piece) expression_layer suffix_layer

abbrev pub symbol_of_kind : SpecifierKind → Symbol
symbol_of_kind (kind.Storage word) = symbol.Storage word
symbol_of_kind (kind.Other word) = symbol.Specifier word
symbol_of_kind (kind.TypeWord word) = symbol.TypeWord word
symbol_of_kind (kind.TypedefName held) = symbol.TypedefName held
symbol_of_kind kind.Enum = symbol.Terminal terminal.Enum

abbrev pub spelled_enumerator : Enumerator → List Piece
spelled_enumerator one = named one.name ∷
    optional (λ value. token (symbol.Assign assign.Assign) ∷ spelled_expression value) one.value

abbrev pub spelled_enumerators : List Enumerator → List Piece
spelled_enumerators found = mark terminal.LeftBrace ∷
    (ended spelled_enumerator found ++ mark terminal.RightBrace ∷ [])

-- an enumerated type behind the word enum (C11 6.7.2.2)
abbrev pub spelled_enumeration : Enumeration → List Piece
spelled_enumeration (enumeration.Tag name) = named name ∷ []
spelled_enumeration (enumeration.Listed tag found) =
    optional (λ name. named name ∷ []) tag ++ spelled_enumerators found

-- what stands behind a word of specifiers: the enumerated type behind enum
abbrev pub behind_word : Option Enumeration → SpecifierKind → List Piece
behind_word found kind.Enum = optional spelled_enumeration found
behind_word found _ = []

abbrev pub spelled_specifier : Option Enumeration → Specifier → List Piece
spelled_specifier found word =
    placed word.place ∷ token (symbol_of_kind word.kind) ∷ behind_word found word.kind

abbrev pub spelled_specifiers : Specifiers → List Piece
spelled_specifiers front =
    placed front.place ∷ in_order (spelled_specifier front.enumeration) front.words

abbrev pub spelled_array : Array → List Piece
spelled_array array = placed array.place ∷ mark terminal.LeftBracket ∷
    (optional spelled_expression array.length ++ mark terminal.RightBracket ∷ [])

abbrev pub spelled_initializer : Initializer → List Piece
spelled_initializer (initializer.Scalar value) = spelled_expression value
spelled_initializer (initializer.List items place) = placed place ∷ mark terminal.LeftBrace ∷
    (ended spelled_expression items ++ mark terminal.RightBrace ∷ [])

-- what stands behind a declarator's name (C11 6.7.6)
abbrev pub spelled_rest : Option Array → Option Initializer → List Piece
spelled_rest array value = (optional spelled_array array ++ any_attributes ∷ []) ++
    optional (λ given. token (symbol.Assign assign.Assign) ∷ spelled_initializer given) value

abbrev pub spelled_declarator : Declarator → List Piece
spelled_declarator declarator =
    named declarator.name ∷ spelled_rest declarator.array declarator.initializer

-- specifiers, what they declare, and a semicolon (C11 6.7)
abbrev pub spelled_declaration : Declaration → List Piece
spelled_declaration declaration = spelled_specifiers declaration.specifiers ++
    (listed spelled_declarator declaration.declarators ++ mark terminal.Semicolon ∷ [])

abbrev pub in_brackets : List Piece → List Piece
in_brackets inner = mark terminal.LeftParen ∷ (inner ++ mark terminal.RightParen ∷ [])

-- an expression or none, and a terminal
abbrev pub closed : Terminal → Option Expression → List Piece
closed t inner = optional spelled_expression inner ++ mark t ∷ []

abbrev pub spelled_start : ForStart → List Piece
spelled_start (start.Declaration declaration) = spelled_declaration declaration
spelled_start (start.Expression expression) = closed terminal.Semicolon expression

-- one layer of a statement, whose parts are spelled already (C11 6.8)
abbrev pub statement_layer : Statement-F (List Piece) (List Piece) → List Piece
statement_layer (Statement-F.Block items place) = placed place ∷ mark terminal.LeftBrace ∷
    (in_order itself items ++ mark terminal.RightBrace ∷ [])
statement_layer (Statement-F.Expression expression place) =
    placed place ∷ closed terminal.Semicolon expression
statement_layer (Statement-F.If test chosen other place) = placed place ∷ mark terminal.If ∷
    (in_brackets (spelled_expression test) ++
    (chosen ++ optional (λ behind. mark terminal.Else ∷ behind) other))
statement_layer (Statement-F.While test body place) = placed place ∷ mark terminal.While ∷
    (in_brackets (spelled_expression test) ++ body)
statement_layer (Statement-F.Do body test place) = placed place ∷ mark terminal.Do ∷
    ((body ++ mark terminal.While ∷ []) ++
    (in_brackets (spelled_expression test) ++ mark terminal.Semicolon ∷ []))
statement_layer (Statement-F.For first test step body place) = placed place ∷ mark terminal.For ∷
    mark terminal.LeftParen ∷ (spelled_start first ++
    (closed terminal.Semicolon test ++ (closed terminal.RightParen step ++ body)))
statement_layer (Statement-F.Switch value body place) = placed place ∷ mark terminal.Switch ∷
    (in_brackets (spelled_expression value) ++ body)
statement_layer (Statement-F.Case value body place) = placed place ∷ mark terminal.Case ∷
    ((spelled_expression value ++ mark terminal.Colon ∷ []) ++ body)
statement_layer (Statement-F.Default body place) =
    placed place ∷ mark terminal.Default ∷ mark terminal.Colon ∷ body
statement_layer (Statement-F.Goto label place) =
    placed place ∷ mark terminal.Goto ∷ (named label ∷ mark terminal.Semicolon ∷ [])
statement_layer (Statement-F.Break place) =
    placed place ∷ mark terminal.Break ∷ mark terminal.Semicolon ∷ []
statement_layer (Statement-F.Continue place) =
    placed place ∷ mark terminal.Continue ∷ mark terminal.Semicolon ∷ []
statement_layer (Statement-F.Return value place) =
    placed place ∷ mark terminal.Return ∷ closed terminal.Semicolon value
statement_layer (Statement-F.Labeled label body) = named label ∷ mark terminal.Colon ∷ body

-- what stands in a block (C11 6.8.2)
abbrev pub block_item_layer : BlockItem-F (List Piece) (List Piece) → List Piece
block_item_layer (BlockItem-F.Declaration declaration) = spelled_declaration declaration
block_item_layer (BlockItem-F.Statement statement) = statement

abbrev pub spelled_block_item : BlockItem → List Piece
spelled_block_item = fold-BlockItem (List Piece) (List Piece) block_item_layer statement_layer

abbrev pub spelled_statement : Statement → List Piece
spelled_statement = fold-Statement (List Piece) (List Piece) block_item_layer statement_layer

abbrev pub spelled_pointer : Bool → List Piece
spelled_pointer true = token (symbol.Binary binary.Multiply) ∷ []
spelled_pointer false = []

abbrev pub spelled_parameter : Parameter → List Piece
spelled_parameter parameter = spelled_specifiers parameter.specifiers ++
    (spelled_pointer parameter.is_pointer ++ optional (λ name. named name ∷ []) parameter.name)

-- what stands between the brackets of a function's declarator (C11 6.7.6.3)
abbrev pub spelled_parameters : Parameters → List Piece
spelled_parameters parameters.Unspecified = []
spelled_parameters parameters.Void = token (symbol.TypeWord type_word.Void) ∷ []
spelled_parameters (parameters.Listed inner) = listed spelled_parameter inner

-- behind a function's name: parameters and attributes
abbrev pub spelled_function : Parameters → List Piece
spelled_function parameters = mark terminal.LeftParen ∷
    ((spelled_parameters parameters ++ mark terminal.RightParen ∷ []) ++ any_attributes ∷ [])

abbrev pub spelled_body : Body → List Piece
spelled_body (body.Block items place end) = placed place ∷ mark terminal.LeftBrace ∷
    (in_order spelled_block_item items ++ placed end ∷ mark terminal.RightBrace ∷ [])
spelled_body body.Skipped = mark terminal.LeftBrace ∷ any_body ∷ []

-- an item (C11 6.9)
abbrev pub spelled_item : Item → List Piece
spelled_item (item.Empty place) = placed place ∷ mark terminal.Semicolon ∷ []
spelled_item (item.Typedef front names place) = placed place ∷ mark terminal.Typedef ∷
    (spelled_specifiers front ++
    (listed (λ name. any_named name ∷ []) names ++ mark terminal.Semicolon ∷ []))
spelled_item (item.Objects declaration) = spelled_declaration declaration
spelled_item (item.Prototype specifiers declarator) = spelled_specifiers specifiers ++
    (named declarator.name ∷
    (spelled_function declarator.parameters ++ mark terminal.Semicolon ∷ []))
spelled_item (item.Function specifiers declarator body) = spelled_specifiers specifiers ++
    (named declarator.name ∷ (spelled_function declarator.parameters ++ spelled_body body))

-- the tokens from p up to q are these items, each seen behind the items before it, and the end
unfoldable pub SpellsItems : (ℕ → Leaf) → List Item → List Item → ℕ → ℕ → Type 0
SpellsItems at done [] p q = Spells at (token symbol.End ∷ []) p q
SpellsItems at done (one ∷ more) p q = (m : ℕ)
    × (Spells (λ i. seen_behind done (at i)) (spelled_item one) p m
    × SpellsItems at (done ++ one ∷ []) more m q)

-- the tokens of the text are what the tree spells, and it has the text's length
pub record IsSpelled (text : List ℕ) (tokens : List Token) (u : UnitTree) : Type 0 where
  pub pieces : SpellsItems (leaf_at (leaves text tokens)) [] u.items 0 (length tokens)
  pub length_is : u.length ≡ length text
