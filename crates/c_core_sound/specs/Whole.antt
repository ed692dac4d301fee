-- Trees that texts have, as far as the grammar does not say it by the shape of a tree (C11 6.4.4
-- and 6.5.17): each constant has a value of its type, and a comma expression has an item. Of an
-- enumerator the core has the number alone, so nothing is said of its expression.
use Rattle.std.specs.Prelude.{◌≡◌, Bool, true, false, ◌&&◌, int_le, ℤ, List, [], ◌∷◌, map, Option}
use Rattle.std.specs.Prelude.{None, Some}
use Rattle.cpa_ints.specs.declared.integers.IntType.{IntType}
use Rattle.cpa_ints.specs.declared.integers.IntType.TheVariants as ty
use Rattle.cpa_ints.specs.Integers.{least, greatest}
use Rattle.c_grammar_tree.specs.declared.expression.Expression.{Expression}
use Rattle.c_grammar_tree.specs.declared.expression.Expression.TheOpen.{Expression-F, Suffix-F}
use Rattle.c_grammar_tree.specs.declared.expression.Expression.TheFolds.{fold-Expression}
use Rattle.c_grammar_tree.specs.declared.declaration.Array.{Array}
use Rattle.c_grammar_tree.specs.declared.declaration.Declarator.{Declarator}
use Rattle.c_grammar_tree.specs.declared.declaration.Declaration.{Declaration}
use Rattle.c_grammar_tree.specs.declared.statement.ForStart.{ForStart}
use Rattle.c_grammar_tree.specs.declared.statement.ForStart.TheVariants as start
use Rattle.c_grammar_tree.specs.declared.statement.BlockItem.{BlockItem}
use Rattle.c_grammar_tree.specs.declared.statement.BlockItem.TheOpen.{BlockItem-F, Statement-F}
use Rattle.c_grammar_tree.specs.declared.statement.BlockItem.TheFolds.{fold-BlockItem}
use Rattle.c_grammar_tree.specs.declared.item.Body.TheVariants as body
use Rattle.c_grammar_tree.specs.declared.item.Item.{Item}
use Rattle.c_grammar_tree.specs.declared.item.Item.TheVariants as item
use Rattle.c_grammar_tree.specs.declared.item.Unit.{Unit as UnitTree}
use Rattle.c_types_rules.specs.Declarations.{items_of}

abbrev pub has_value : IntType → ℤ → Bool
has_value t n = int_le (least t) n && int_le n (greatest t)

-- all of these are
abbrev pub all_whole : List Bool → Bool
all_whole [] = true
all_whole (part ∷ parts) = part && all_whole parts

abbrev pub some_item : {A : Type 0} → List A → Bool
some_item [] = false
some_item (item ∷ items) = true

abbrev pub whole_suffix : Suffix-F Bool Bool → Bool
whole_suffix (Suffix-F.Index index place) = index
whole_suffix (Suffix-F.Call arguments place) = all_whole arguments
whole_suffix (Suffix-F.Step operator place) = true
whole_suffix (Suffix-F.Skipped place) = true

abbrev pub whole_expression : Expression-F Bool Bool → Bool
whole_expression (Expression-F.Name name) = true
whole_expression (Expression-F.Number t n place) = has_value t n
whole_expression (Expression-F.Character n place) = has_value ty.I32 n
whole_expression (Expression-F.Bracketed inner place) = inner
whole_expression (Expression-F.Postfix place base suffixes) = base && all_whole suffixes
whole_expression (Expression-F.PrefixStep operator operand place) = operand
whole_expression (Expression-F.Unary operator operand place) = operand
whole_expression (Expression-F.Cast to operand place) = operand
whole_expression (Expression-F.Chain place first rest) =
    first && all_whole (map (λ link. link.1) rest)
whole_expression (Expression-F.Conditional test first second place) = test && (first && second)
whole_expression (Expression-F.Assignment left operator right place) = left && right
whole_expression (Expression-F.Comma items place) = some_item items && all_whole items

unfoldable pub is_whole : Expression → Bool
is_whole = fold-Expression Bool Bool whole_expression whole_suffix

abbrev pub whole_optional : Option Expression → Bool
whole_optional None = true
whole_optional (Some expression) = is_whole expression

abbrev pub whole_length : Option Array → Bool
whole_length None = true
whole_length (Some array) = whole_optional array.length

-- its length, and the items of its initializer
abbrev pub whole_declarator : Declarator → Bool
whole_declarator declarator =
    whole_length declarator.array && all_whole (map is_whole (items_of declarator.initializer))

abbrev pub whole_declaration : Declaration → Bool
whole_declaration declaration = all_whole (map whole_declarator declaration.declarators)

abbrev pub whole_start : ForStart → Bool
whole_start (start.Declaration declaration) = whole_declaration declaration
whole_start (start.Expression expression) = whole_optional expression

abbrev pub perhaps_whole : Option Bool → Bool
perhaps_whole None = true
perhaps_whole (Some part) = part

abbrev pub whole_statement : Statement-F Bool Bool → Bool
whole_statement (Statement-F.Block items place) = all_whole items
whole_statement (Statement-F.Expression expression place) = whole_optional expression
whole_statement (Statement-F.If test first second place) =
    is_whole test && (first && perhaps_whole second)
whole_statement (Statement-F.While test body place) = is_whole test && body
whole_statement (Statement-F.Do body test place) = body && is_whole test
whole_statement (Statement-F.For first test step body place) =
    whole_start first && (whole_optional test && (whole_optional step && body))
whole_statement (Statement-F.Switch value body place) = is_whole value && body
whole_statement (Statement-F.Case value body place) = is_whole value && body
whole_statement (Statement-F.Default body place) = body
whole_statement (Statement-F.Return value place) = whole_optional value
whole_statement (Statement-F.Labeled label body) = body
whole_statement _ = true

abbrev pub whole_item_layer : BlockItem-F Bool Bool → Bool
whole_item_layer (BlockItem-F.Declaration declaration) = whole_declaration declaration
whole_item_layer (BlockItem-F.Statement statement) = statement

unfoldable pub whole_block_item : BlockItem → Bool
whole_block_item = fold-BlockItem Bool Bool whole_item_layer whole_statement

abbrev pub whole_item : Item → Bool
whole_item (item.Function specifiers declarator (body.Block items place end)) =
    all_whole (map whole_block_item items)
whole_item (item.Objects declaration) = whole_declaration declaration
whole_item _ = true

-- each expression of the text but those of enumerators is
abbrev pub IsWhole : UnitTree → Type 0
IsWhole unit = all_whole (map whole_item unit.items) ≡ true
