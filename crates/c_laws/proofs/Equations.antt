-- What an expression, a suffix, a statement and an item of a block spell, variant by variant.
use Rattle.std.specs.Prelude.{◌≡◌, ℕ, ℤ, List, [], ◌∷◌, ◌++◌, Option, None, Some}
use Rattle.std.proofs.Common.{sym, ◌∙◌, ap}
use Rattle.cpa_ints.specs.declared.integers.IntType.{IntType}
use Rattle.c_grammar_symbols.specs.declared.words.Terminal.TheVariants as terminal
use Rattle.c_grammar_symbols.specs.declared.operators.AssignmentOperator.{AssignmentOperator}
use Rattle.c_grammar_symbols.specs.declared.operators.BinaryOperator.{BinaryOperator}
use Rattle.c_grammar_symbols.specs.declared.operators.StepOperator.{StepOperator}
use Rattle.c_grammar_symbols.specs.declared.symbol.Symbol.TheVariants as symbol
use Rattle.c_grammar_tree.specs.declared.name.Name.{Name}
use Rattle.c_grammar_tree.specs.declared.expression.Expression.{Expression}
use Rattle.c_grammar_tree.specs.declared.expression.Expression.TheOpen.{Expression-F, Suffix-F}
use Rattle.c_grammar_tree.specs.declared.expression.Expression.TheFolds.{fold-roll-Expression}
use Rattle.c_grammar_tree.specs.declared.expression.Expression.TheFolds.{fold-roll-Suffix}
use Rattle.c_grammar_tree.specs.declared.expression.Expression.TheVariants as expression
use Rattle.c_grammar_tree.specs.declared.expression.Suffix.{Suffix}
use Rattle.c_grammar_tree.specs.declared.expression.Suffix.TheVariants as suffix
use Rattle.c_grammar_tree.specs.declared.expression.TypeName.{TypeName}
use Rattle.c_grammar_tree.specs.declared.expression.UnaryOperator.{UnaryOperator}
use Rattle.c_grammar_tree.specs.declared.declaration.Declaration.{Declaration}
use Rattle.c_grammar_tree.specs.declared.statement.Statement.{Statement}
use Rattle.c_grammar_tree.specs.declared.statement.Statement.TheVariants as statement
use Rattle.c_grammar_tree.specs.declared.statement.ForStart.{ForStart}
use Rattle.c_grammar_tree.specs.declared.statement.BlockItem.{BlockItem}
use Rattle.c_grammar_tree.specs.declared.statement.BlockItem.TheVariants as block_item
use Rattle.c_grammar_tree.specs.declared.statement.BlockItem.TheOpen.{BlockItem-F, Statement-F}
use Rattle.c_grammar_tree.specs.declared.statement.BlockItem.TheFolds.{fold-roll-BlockItem}
use Rattle.c_grammar_tree.specs.declared.statement.BlockItem.TheFolds.{fold-roll-Statement}
use Rattle.c_laws.specs.Spelling.{Piece, placed, token, named, any_arguments, mark}
use Rattle.c_laws.specs.Spelling.{in_order}
use Rattle.c_laws.specs.Spelling.{listed, optional, operated, itself, symbol_of_sign}
use Rattle.c_laws.specs.Spelling.{spelled_type_name, expression_layer, suffix_layer}
use Rattle.c_laws.specs.Spelling.{spelled_expression, spelled_suffix}
use Rattle.c_laws.specs.Spelling.{spelled_declaration}
use Rattle.c_laws.specs.Spelling.{in_brackets, closed, spelled_start, statement_layer}
use Rattle.c_laws.specs.Spelling.{block_item_layer, spelled_block_item}
use Rattle.c_laws.specs.Spelling.{spelled_statement}
use Rattle.c_laws.proofs.Spells.{in_order_map, listed_map}

pub name_pieces : (name : Name) → spelled_expression (expression.Name name) ≡ named name ∷ []
name_pieces name =
    ap spelled_expression (sym (expression.rolls-Name name))
    ∙ fold-roll-Expression (List Piece) (List Piece) expression_layer suffix_layer
    (Expression-F.Name name)

pub number_pieces : (ty : IntType) (value : ℤ) (place : ℕ) →
    spelled_expression (expression.Number ty value place) ≡
    placed place ∷ token (symbol.Number ty value) ∷ []
number_pieces ty value place =
    ap spelled_expression (sym (expression.rolls-Number ty value place))
    ∙ fold-roll-Expression (List Piece) (List Piece) expression_layer suffix_layer
    (Expression-F.Number ty value place)

pub character_pieces : (value : ℤ) (place : ℕ) →
    spelled_expression (expression.Character value place) ≡
    placed place ∷ token (symbol.Character value) ∷ []
character_pieces value place =
    ap spelled_expression (sym (expression.rolls-Character value place))
    ∙ fold-roll-Expression (List Piece) (List Piece) expression_layer suffix_layer
    (Expression-F.Character value place)

pub bracketed_pieces : (inner : Expression) (place : ℕ) →
    spelled_expression (expression.Bracketed inner place) ≡ placed place ∷ mark terminal.LeftParen ∷
    (spelled_expression inner ++ mark terminal.RightParen ∷ [])
bracketed_pieces inner place =
    ap spelled_expression (sym (expression.rolls-Bracketed inner place))
    ∙ fold-roll-Expression (List Piece) (List Piece) expression_layer suffix_layer
    (Expression-F.Bracketed inner place)

pub postfix_pieces : (base : Expression) (suffixes : List Suffix) (place : ℕ) →
    spelled_expression (expression.Postfix place base suffixes) ≡
    placed place ∷ (spelled_expression base ++ in_order spelled_suffix suffixes)
postfix_pieces base suffixes place =
    ap spelled_expression (sym (expression.rolls-Postfix place base suffixes))
    ∙ (fold-roll-Expression (List Piece) (List Piece) expression_layer suffix_layer
    (Expression-F.Postfix place base suffixes)
    ∙ ap (λ pieces. placed place ∷ (spelled_expression base ++ pieces))
    (in_order_map itself spelled_suffix suffixes))

pub prefix_step_pieces : (operator : StepOperator) (operand : Expression) (place : ℕ) →
    spelled_expression (expression.PrefixStep operator operand place) ≡
    placed place ∷ token (symbol.Step operator) ∷ spelled_expression operand
prefix_step_pieces operator operand place =
    ap spelled_expression (sym (expression.rolls-PrefixStep operator operand place))
    ∙ fold-roll-Expression (List Piece) (List Piece) expression_layer suffix_layer
    (Expression-F.PrefixStep operator operand place)

pub unary_pieces : (operator : UnaryOperator) (operand : Expression) (place : ℕ) →
    spelled_expression (expression.Unary operator operand place) ≡
    placed place ∷ token (symbol_of_sign operator) ∷ spelled_expression operand
unary_pieces operator operand place =
    ap spelled_expression (sym (expression.rolls-Unary operator operand place))
    ∙ fold-roll-Expression (List Piece) (List Piece) expression_layer suffix_layer
    (Expression-F.Unary operator operand place)

pub cast_pieces : (to : TypeName) (operand : Expression) (place : ℕ) →
    spelled_expression (expression.Cast to operand place) ≡ placed place ∷ mark terminal.LeftParen ∷
    ((spelled_type_name to ++ mark terminal.RightParen ∷ []) ++ spelled_expression operand)
cast_pieces to operand place =
    ap spelled_expression (sym (expression.rolls-Cast to operand place))
    ∙ fold-roll-Expression (List Piece) (List Piece) expression_layer suffix_layer
    (Expression-F.Cast to operand place)

pub chain_pieces : (first : Expression) (rest : List (BinaryOperator × Expression)) (place : ℕ) →
    spelled_expression (expression.Chain place first rest) ≡
    placed place ∷ (spelled_expression first ++ in_order (operated spelled_expression) rest)
chain_pieces first rest place =
    ap spelled_expression (sym (expression.rolls-Chain place first rest))
    ∙ (fold-roll-Expression (List Piece) (List Piece) expression_layer suffix_layer
    (Expression-F.Chain place first rest)
    ∙ ap (λ pieces. placed place ∷ (spelled_expression first ++ pieces))
    (in_order_map (operated itself) (λ operand. (operand.0, spelled_expression operand.1)) rest))

pub conditional_pieces : (test chosen other : Expression) (place : ℕ) →
    spelled_expression (expression.Conditional test chosen other place) ≡
    placed place ∷ (spelled_expression test ++ mark terminal.Question ∷
    ((spelled_expression chosen ++ mark terminal.Colon ∷ []) ++ spelled_expression other))
conditional_pieces test chosen other place =
    ap spelled_expression (sym (expression.rolls-Conditional test chosen other place))
    ∙ fold-roll-Expression (List Piece) (List Piece) expression_layer suffix_layer
    (Expression-F.Conditional test chosen other place)

pub assignment_pieces : (left : Expression) (operator : AssignmentOperator) (right : Expression)
    (place : ℕ) → spelled_expression (expression.Assignment left operator right place) ≡
    placed place ∷ (spelled_expression left ++ token (symbol.Assign operator) ∷
    spelled_expression right)
assignment_pieces left operator right place =
    ap spelled_expression (sym (expression.rolls-Assignment left operator right place))
    ∙ fold-roll-Expression (List Piece) (List Piece) expression_layer suffix_layer
    (Expression-F.Assignment left operator right place)

pub comma_pieces : (items : List Expression) (place : ℕ) →
    spelled_expression (expression.Comma items place) ≡
    placed place ∷ listed spelled_expression items
comma_pieces items place =
    ap spelled_expression (sym (expression.rolls-Comma items place))
    ∙ (fold-roll-Expression (List Piece) (List Piece) expression_layer suffix_layer
    (Expression-F.Comma items place)
    ∙ ap (λ pieces. placed place ∷ pieces) (listed_map itself spelled_expression items))

pub index_pieces : (index : Expression) (place : ℕ) →
    spelled_suffix (suffix.Index index place) ≡ placed place ∷ mark terminal.LeftBracket ∷
    (spelled_expression index ++ mark terminal.RightBracket ∷ [])
index_pieces index place =
    ap spelled_suffix (sym (suffix.rolls-Index index place))
    ∙ fold-roll-Suffix (List Piece) (List Piece) expression_layer suffix_layer
    (Suffix-F.Index index place)

pub call_pieces : (given : List Expression) (place : ℕ) →
    spelled_suffix (suffix.Call given place) ≡ placed place ∷ mark terminal.LeftParen ∷
    (listed spelled_expression given ++ mark terminal.RightParen ∷ [])
call_pieces given place =
    ap spelled_suffix (sym (suffix.rolls-Call given place))
    ∙ (fold-roll-Suffix (List Piece) (List Piece) expression_layer suffix_layer
    (Suffix-F.Call given place)
    ∙ ap (λ pieces. placed place ∷ mark terminal.LeftParen ∷
    (pieces ++ mark terminal.RightParen ∷ [])) (listed_map itself spelled_expression given))

pub step_pieces : (operator : StepOperator) (place : ℕ) →
    spelled_suffix (suffix.Step operator place) ≡
    placed place ∷ token (symbol.Step operator) ∷ []
step_pieces operator place =
    ap spelled_suffix (sym (suffix.rolls-Step operator place))
    ∙ fold-roll-Suffix (List Piece) (List Piece) expression_layer suffix_layer
    (Suffix-F.Step operator place)

pub skipped_pieces : (place : ℕ) → spelled_suffix (suffix.Skipped place) ≡
    placed place ∷ mark terminal.LeftParen ∷ any_arguments ∷ []
skipped_pieces place =
    ap spelled_suffix (sym (suffix.rolls-Skipped place))
    ∙ fold-roll-Suffix (List Piece) (List Piece) expression_layer suffix_layer
    (Suffix-F.Skipped place)

pub block_pieces : (items : List BlockItem) (place : ℕ) →
    spelled_statement (statement.Block items place) ≡ placed place ∷ mark terminal.LeftBrace ∷
    (in_order spelled_block_item items ++ mark terminal.RightBrace ∷ [])
block_pieces items place =
    ap spelled_statement (sym (statement.rolls-Block items place))
    ∙ (fold-roll-Statement (List Piece) (List Piece) block_item_layer statement_layer
    (Statement-F.Block items place)
    ∙ ap (λ pieces. placed place ∷ mark terminal.LeftBrace ∷
    (pieces ++ mark terminal.RightBrace ∷ [])) (in_order_map itself spelled_block_item items))

pub plain_pieces : (inner : Option Expression) (place : ℕ) →
    spelled_statement (statement.Expression inner place) ≡
    placed place ∷ closed terminal.Semicolon inner
plain_pieces inner place =
    ap spelled_statement (sym (statement.rolls-Expression inner place))
    ∙ fold-roll-Statement (List Piece) (List Piece) block_item_layer statement_layer
    (Statement-F.Expression inner place)

-- an else, or none
abbrev pub else_pieces : Option Statement → List Piece
else_pieces = optional (λ other. mark terminal.Else ∷ spelled_statement other)

pub if_pieces : (test : Expression) (chosen : Statement) (other : Option Statement) (place : ℕ) →
    spelled_statement (statement.If test chosen other place) ≡ placed place ∷ mark terminal.If ∷
    (in_brackets (spelled_expression test) ++ (spelled_statement chosen ++ else_pieces other))
if_pieces test chosen None place =
    ap spelled_statement (sym (statement.rolls-If test chosen None place))
    ∙ fold-roll-Statement (List Piece) (List Piece) block_item_layer statement_layer
    (Statement-F.If test chosen None place)
if_pieces test chosen (Some other) place =
    ap spelled_statement (sym (statement.rolls-If test chosen (Some other) place))
    ∙ fold-roll-Statement (List Piece) (List Piece) block_item_layer statement_layer
    (Statement-F.If test chosen (Some other) place)

pub while_pieces : (test : Expression) (body : Statement) (place : ℕ) →
    spelled_statement (statement.While test body place) ≡ placed place ∷ mark terminal.While ∷
    (in_brackets (spelled_expression test) ++ spelled_statement body)
while_pieces test body place =
    ap spelled_statement (sym (statement.rolls-While test body place))
    ∙ fold-roll-Statement (List Piece) (List Piece) block_item_layer statement_layer
    (Statement-F.While test body place)

pub do_pieces : (body : Statement) (test : Expression) (place : ℕ) →
    spelled_statement (statement.Do body test place) ≡ placed place ∷ mark terminal.Do ∷
    ((spelled_statement body ++ mark terminal.While ∷ []) ++
    (in_brackets (spelled_expression test) ++ mark terminal.Semicolon ∷ []))
do_pieces body test place =
    ap spelled_statement (sym (statement.rolls-Do body test place))
    ∙ fold-roll-Statement (List Piece) (List Piece) block_item_layer statement_layer
    (Statement-F.Do body test place)

pub for_pieces : (first : ForStart) (test step : Option Expression) (body : Statement)
    (place : ℕ) → spelled_statement (statement.For first test step body place) ≡
    placed place ∷ mark terminal.For ∷ mark terminal.LeftParen ∷ (spelled_start first ++
    (closed terminal.Semicolon test ++ (closed terminal.RightParen step ++
    spelled_statement body)))
for_pieces first test step body place =
    ap spelled_statement (sym (statement.rolls-For first test step body place))
    ∙ fold-roll-Statement (List Piece) (List Piece) block_item_layer statement_layer
    (Statement-F.For first test step body place)

pub switch_pieces : (value : Expression) (body : Statement) (place : ℕ) →
    spelled_statement (statement.Switch value body place) ≡ placed place ∷ mark terminal.Switch ∷
    (in_brackets (spelled_expression value) ++ spelled_statement body)
switch_pieces value body place =
    ap spelled_statement (sym (statement.rolls-Switch value body place))
    ∙ fold-roll-Statement (List Piece) (List Piece) block_item_layer statement_layer
    (Statement-F.Switch value body place)

pub case_pieces : (value : Expression) (body : Statement) (place : ℕ) →
    spelled_statement (statement.Case value body place) ≡ placed place ∷ mark terminal.Case ∷
    ((spelled_expression value ++ mark terminal.Colon ∷ []) ++ spelled_statement body)
case_pieces value body place =
    ap spelled_statement (sym (statement.rolls-Case value body place))
    ∙ fold-roll-Statement (List Piece) (List Piece) block_item_layer statement_layer
    (Statement-F.Case value body place)

pub default_pieces : (body : Statement) (place : ℕ) →
    spelled_statement (statement.Default body place) ≡
    placed place ∷ mark terminal.Default ∷ mark terminal.Colon ∷ spelled_statement body
default_pieces body place =
    ap spelled_statement (sym (statement.rolls-Default body place))
    ∙ fold-roll-Statement (List Piece) (List Piece) block_item_layer statement_layer
    (Statement-F.Default body place)

pub goto_pieces : (label : Name) (place : ℕ) →
    spelled_statement (statement.Goto label place) ≡
    placed place ∷ mark terminal.Goto ∷ (named label ∷ mark terminal.Semicolon ∷ [])
goto_pieces label place =
    ap spelled_statement (sym (statement.rolls-Goto label place))
    ∙ fold-roll-Statement (List Piece) (List Piece) block_item_layer statement_layer
    (Statement-F.Goto label place)

pub break_pieces : (place : ℕ) → spelled_statement (statement.Break place) ≡
    placed place ∷ mark terminal.Break ∷ mark terminal.Semicolon ∷ []
break_pieces place =
    ap spelled_statement (sym (statement.rolls-Break place))
    ∙ fold-roll-Statement (List Piece) (List Piece) block_item_layer statement_layer
    (Statement-F.Break place)

pub continue_pieces : (place : ℕ) → spelled_statement (statement.Continue place) ≡
    placed place ∷ mark terminal.Continue ∷ mark terminal.Semicolon ∷ []
continue_pieces place =
    ap spelled_statement (sym (statement.rolls-Continue place))
    ∙ fold-roll-Statement (List Piece) (List Piece) block_item_layer statement_layer
    (Statement-F.Continue place)

pub return_pieces : (value : Option Expression) (place : ℕ) →
    spelled_statement (statement.Return value place) ≡
    placed place ∷ mark terminal.Return ∷ closed terminal.Semicolon value
return_pieces value place =
    ap spelled_statement (sym (statement.rolls-Return value place))
    ∙ fold-roll-Statement (List Piece) (List Piece) block_item_layer statement_layer
    (Statement-F.Return value place)

pub labeled_pieces : (label : Name) (body : Statement) →
    spelled_statement (statement.Labeled label body) ≡
    named label ∷ mark terminal.Colon ∷ spelled_statement body
labeled_pieces label body =
    ap spelled_statement (sym (statement.rolls-Labeled label body))
    ∙ fold-roll-Statement (List Piece) (List Piece) block_item_layer statement_layer
    (Statement-F.Labeled label body)

pub declared_pieces : (declaration : Declaration) →
    spelled_block_item (block_item.Declaration declaration) ≡ spelled_declaration declaration
declared_pieces declaration =
    ap spelled_block_item (sym (block_item.rolls-Declaration declaration))
    ∙ fold-roll-BlockItem (List Piece) (List Piece) block_item_layer statement_layer
    (BlockItem-F.Declaration declaration)

pub stated_pieces : (inner : Statement) →
    spelled_block_item (block_item.Statement inner) ≡ spelled_statement inner
stated_pieces inner =
    ap spelled_block_item (sym (block_item.rolls-Statement inner))
    ∙ fold-roll-BlockItem (List Piece) (List Piece) block_item_layer statement_layer
    (BlockItem-F.Statement inner)
