-- The typed tree of statements, of functions and of a text (this project's own, over C11 6.8 and
-- 6.9).
use Rattle.std.specs.Prelude.{ℕ, ◌+◌, Bool, true, List, [], ◌∷◌, map}
use Rattle.std.specs.Prelude.{Option, None, Some, unwrap_or, option_map}
use Rattle.std.specs.Str.{bytes_eq}
use Rattle.c_grammar_tree.specs.declared.name.Name.{Name}
use Rattle.c_grammar_tree.specs.declared.expression.Expression.{Expression}
use Rattle.c_grammar_tree.specs.declared.declaration.Specifiers.{Specifiers}
use Rattle.c_grammar_tree.specs.declared.declaration.Declarator.{Declarator}
use Rattle.c_grammar_tree.specs.declared.declaration.Declaration.{Declaration}
use Rattle.c_grammar_tree.specs.declared.item.Parameter.{Parameter}
use Rattle.c_grammar_tree.specs.declared.statement.ForStart.{ForStart}
use Rattle.c_grammar_tree.specs.declared.statement.ForStart.TheVariants as start
use Rattle.c_grammar_tree.specs.declared.statement.BlockItem.{BlockItem}
use Rattle.c_grammar_tree.specs.declared.statement.BlockItem.TheOpen.{BlockItem-F, Statement-F}
use Rattle.c_grammar_tree.specs.declared.statement.BlockItem.TheFolds.{fold-BlockItem}
use Rattle.c_grammar_tree.specs.declared.statement.BlockItem.TheFolds.{map-BlockItem}
use Rattle.c_grammar_tree.specs.declared.statement.BlockItem.TheFolds.{map-Statement}
use Rattle.c_grammar_tree.specs.declared.item.FunctionDeclarator.{FunctionDeclarator}
use Rattle.c_types_rules.specs.declared.meaning.Kind.{Kind}
use Rattle.c_types_rules.specs.declared.meaning.Object.{Object}
use Rattle.c_types_rules.specs.declared.typed.TypedExpression.{TypedExpression}
use Rattle.c_types_rules.specs.declared.typed.TypedDeclarator.{TypedDeclarator}
use Rattle.c_types_rules.specs.declared.typed.TypedForStart.{TypedForStart}
use Rattle.c_types_rules.specs.declared.typed.TypedForStart.TheVariants as typed_start
use Rattle.c_types_rules.specs.declared.typed.TypedStatement.{TypedStatement}
use Rattle.c_types_rules.specs.declared.typed.TypedStatement.TheVariants as tree
use Rattle.c_types_rules.specs.declared.typed.TypedItem.{TypedItem}
use Rattle.c_types_rules.specs.declared.typed.TypedItem.TheOpen.{TypedStatement-F}
use Rattle.c_types_rules.specs.declared.typed.TypedItem.TheVariants as typed_item
use Rattle.c_types_rules.specs.declared.typed.TypedFunction.{TypedFunction}
use Rattle.c_types_rules.specs.Names.{Text, place_of}
use Rattle.c_types_rules.specs.Expressions.{reading}
use Rattle.c_types_rules.specs.Declarations.{kind_of, has_const, parameter_object, typed_local}
use Rattle.c_types_rules.specs.Statements.{Around, Walk, inner, loop, in_order, declaring_behind}
use Rattle.c_types_rules.specs.Statements.{receiving, start_walk, statement_walk}
use Rattle.c_types_rules.specs.Statements.{item_walk, labeled, selected, switched, end_behind}
use Rattle.c_types_rules.specs.Statements.{enumeration_walk}
use Rattle.c_types_rules.specs.Items.{Before, listed, around_body, function_behind}

-- a part: its acts, and its typed tree where it stands
pub record Grown (T : Type 0) : Type 0 where
  pub walk : Walk
  pub typed : Around → T

abbrev pub typed_expression : Text → Around → Expression → TypedExpression
typed_expression text around expression = (reading text around.names expression).typed

abbrev pub typed_optional : Text → Around → Option Expression → Option TypedExpression
typed_optional text around = option_map (typed_expression text around)

-- parts one after the other
abbrev pub typed_in_order : {T : Type 0} → List (Grown T) → Around → List T
typed_in_order [] around = []
typed_in_order (part ∷ parts) around =
    part.typed around ∷ typed_in_order parts (part.walk.behind around)

abbrev pub typed_declarator : Text → Kind → Bool → Declarator → Around → TypedDeclarator
typed_declarator text kind is_const declarator around =
    typed_local text around.names around.objects kind is_const declarator

abbrev pub typed_declarators : Text → Kind → Bool → List Declarator → Around → List TypedDeclarator
typed_declarators text kind is_const [] around = []
typed_declarators text kind is_const (declarator ∷ more) around =
    typed_declarator text kind is_const declarator around
    ∷ typed_declarators text kind is_const more
    (declaring_behind text kind is_const declarator around)

abbrev pub typed_declaration : Text → Declaration → Around → List TypedDeclarator
typed_declaration text declaration around =
    typed_declarators text (kind_of text declaration.specifiers) (has_const declaration.specifiers)
    declaration.declarators
    ((enumeration_walk text declaration.specifiers.enumeration).behind around)

abbrev pub typed_for_start : Text → ForStart → Around → TypedForStart
typed_for_start text (start.Declaration declaration) around =
    typed_start.Declaration (typed_declaration text declaration around)
typed_for_start text (start.Expression expression) around =
    typed_start.Expression (typed_optional text around expression)

-- the number of the label of this name in its function
abbrev pub label_number : Around → Name → ℕ
label_number around name = unwrap_or (place_of (bytes_eq name.bytes) around.labels) 0

-- a break at this place, by where it goes
abbrev pub typed_break : Option ℕ → ℕ → TypedStatement
typed_break None place = tree.Break place
typed_break (Some end) place = tree.Goto end place

-- a statement with a grown part for each statement in it, where it stands
abbrev pub typed_statement : Text → Statement-F (Grown TypedItem) (Grown TypedStatement) → Around
    → TypedStatement
typed_statement text (Statement-F.Block items place) around =
    tree.Block (typed_in_order items (inner around)) place
typed_statement text (Statement-F.Expression expression place) around =
    tree.Expression (typed_optional text around expression) place
typed_statement text (Statement-F.If test first second place) around =
    tree.If (typed_expression text around test) (first.typed around)
    (option_map (λ other. other.typed (first.walk.behind around)) second) place
typed_statement text (Statement-F.While test body place) around =
    tree.While (typed_expression text around test) (body.typed (loop around)) place
typed_statement text (Statement-F.Do body test place) around =
    tree.Do (body.typed (loop around)) (typed_expression text around test) place
typed_statement text (Statement-F.For first test step body place) around =
    let behind = (start_walk text first).behind (inner around) in
    tree.For (typed_for_start text first (inner around)) (typed_optional text behind test)
    (typed_optional text behind step) (body.typed (loop behind)) place
typed_statement text (Statement-F.Goto label place) around =
    tree.Goto (label_number around label) place
typed_statement text (Statement-F.Switch value body place) around =
    let end = end_behind body.walk around in
    let within = switched text value end around in
    let behind = body.walk.behind within in
    tree.Switch (typed_expression text around value) behind.choices
    (unwrap_or behind.otherwise end) (body.typed within) end place
typed_statement text (Statement-F.Case value body place) around =
    tree.Labeled around.passed (body.typed (selected text (Some value) around)) place
typed_statement text (Statement-F.Default body place) around =
    tree.Labeled around.passed (body.typed (selected text None around)) place
typed_statement text (Statement-F.Break place) around =
    typed_break around.break_to place
typed_statement text (Statement-F.Continue place) around = tree.Continue place
typed_statement text (Statement-F.Return value place) around =
    tree.Return (typed_optional text around value) place
typed_statement text (Statement-F.Labeled label body) around =
    tree.Labeled around.passed (body.typed (labeled around)) label.place

abbrev pub typed_block_item : Text → BlockItem-F (Grown TypedItem) (Grown TypedStatement) → Around
    → TypedItem
typed_block_item text (BlockItem-F.Declaration declaration) around =
    typed_item.Declaration (typed_declaration text declaration around)
typed_block_item text (BlockItem-F.Statement statement) around =
    typed_item.Statement (statement.typed around)

-- the acts of the parts
abbrev pub walk_in : {T : Type 0} → Grown T → Walk
walk_in part = part.walk

abbrev pub grown_statement : Text → Statement-F (Grown TypedItem) (Grown TypedStatement)
    → Grown TypedStatement
grown_statement text part = record {
  walk = statement_walk text (map-Statement (Grown TypedItem)
      (Grown TypedStatement) Walk Walk walk_in walk_in part);
  typed = typed_statement text part;
}

abbrev pub grown_item : Text → BlockItem-F (Grown TypedItem) (Grown TypedStatement)
    → Grown TypedItem
grown_item text part = record {
  walk = item_walk text (map-BlockItem (Grown TypedItem)
      (Grown TypedStatement) Walk Walk walk_in walk_in part);
  typed = typed_block_item text part;
}

-- an item of a block: its acts and its typed tree
unfoldable pub grown : Text → BlockItem → Grown TypedItem
grown text =
    fold-BlockItem (Grown TypedItem) (Grown TypedStatement) (grown_item text) (grown_statement text)

-- what the parts of a typed statement give, in the order of the text: the items of a block, both
-- statements of an if, the one statement in another
abbrev pub typed_parts : {I S T : Type 0} → (List I → T) → (S → T) → (T → T → T)
    → TypedStatement-F I S → T
typed_parts items part both (TypedStatement-F.Block inside place) = items inside
typed_parts items part both (TypedStatement-F.If test first second place) =
    both (part first) (unwrap_or (option_map part second) (items []))
typed_parts items part both (TypedStatement-F.While test body place) = part body
typed_parts items part both (TypedStatement-F.Do body test place) = part body
typed_parts items part both (TypedStatement-F.For first test step body place) = part body
typed_parts items part both (TypedStatement-F.Labeled label body place) = part body
typed_parts items part both (TypedStatement-F.Switch value choices otherwise body end place) =
    part body
typed_parts items part both _ = items []

-- the objects of parameters, from a number on
abbrev pub parameter_objects : Text → ℕ → List Parameter → List Object
parameter_objects text number [] = []
parameter_objects text number (parameter ∷ parameters) =
    parameter_object text number parameter ∷ parameter_objects text (number + 1) parameters

-- a function with these items in its body, between braces at these places
abbrev pub typed_function : Text → Before → Specifiers → FunctionDeclarator → List BlockItem
    → ℕ → ℕ → TypedFunction
typed_function text before specifiers declarator items place end =
    let around = around_body text (function_behind text true specifiers declarator before)
    specifiers items in
    record {
      result = kind_of text specifiers;
      parameters = parameter_objects text before.objects (listed declarator.parameters);
      items = typed_in_order (map (grown text) items)
          ((in_order (map (receiving text) (listed declarator.parameters))).behind around);
      place = place;
      end = end;
    }
