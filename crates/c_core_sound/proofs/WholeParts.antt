-- Trees of which each part is whole, by their constructors.
use Rattle.std.proofs.Common.{◌≡◌, ℕ, ℤ, Bool, true, List, [], ◌∷◌, map, Option, None, Some}
use Rattle.std.proofs.Common.{refl, ap, sym, ◌∙◌}
use Rattle.cpa_ints.specs.declared.integers.IntType.{IntType}
use Rattle.cpa_ints.specs.declared.integers.IntType.TheVariants as ty
use Rattle.c_grammar_symbols.specs.declared.operators.AssignmentOperator.{AssignmentOperator}
use Rattle.c_grammar_symbols.specs.declared.operators.BinaryOperator.{BinaryOperator}
use Rattle.c_grammar_symbols.specs.declared.operators.StepOperator.{StepOperator}
use Rattle.c_grammar_tree.specs.declared.name.Name.{Name}
use Rattle.c_grammar_tree.specs.declared.expression.Expression.{Expression, roll-Expression}
use Rattle.c_grammar_tree.specs.declared.expression.Expression.TheVariants as expression
use Rattle.c_grammar_tree.specs.declared.expression.Expression.TheOpen.{Expression-F, Suffix-F}
use Rattle.c_grammar_tree.specs.declared.expression.Expression.TheFolds.{fold-Suffix}
use Rattle.c_grammar_tree.specs.declared.expression.Expression.TheFolds.{fold-roll-Expression}
use Rattle.c_grammar_tree.specs.declared.expression.Expression.TheFolds.{fold-roll-Suffix}
use Rattle.c_grammar_tree.specs.declared.expression.Expression.TheFolds.{map-Expression, map-Suffix}
use Rattle.c_grammar_tree.specs.declared.expression.Suffix.{Suffix, roll-Suffix}
use Rattle.c_grammar_tree.specs.declared.expression.Suffix.TheVariants as suffix
use Rattle.c_grammar_tree.specs.declared.expression.TypeName.{TypeName}
use Rattle.c_grammar_tree.specs.declared.expression.UnaryOperator.{UnaryOperator}
use Rattle.c_grammar_tree.specs.declared.declaration.Declaration.{Declaration}
use Rattle.c_grammar_tree.specs.declared.statement.ForStart.{ForStart}
use Rattle.c_grammar_tree.specs.declared.statement.Statement.{Statement, roll-Statement}
use Rattle.c_grammar_tree.specs.declared.statement.Statement.TheVariants as node
use Rattle.c_grammar_tree.specs.declared.statement.BlockItem.{BlockItem, roll-BlockItem}
use Rattle.c_grammar_tree.specs.declared.statement.BlockItem.TheVariants as in_block
use Rattle.c_grammar_tree.specs.declared.statement.BlockItem.TheOpen.{BlockItem-F, Statement-F}
use Rattle.c_grammar_tree.specs.declared.statement.BlockItem.TheFolds.{fold-Statement}
use Rattle.c_grammar_tree.specs.declared.statement.BlockItem.TheFolds.{fold-roll-BlockItem}
use Rattle.c_grammar_tree.specs.declared.statement.BlockItem.TheFolds.{fold-roll-Statement}
use Rattle.c_grammar_tree.specs.declared.statement.BlockItem.TheFolds.{map-BlockItem, map-Statement}
use Rattle.c_core_sound.specs.Whole.{all_whole, has_value, is_whole}
use Rattle.c_core_sound.specs.Whole.{whole_block_item, whole_declaration, whole_expression}
use Rattle.c_core_sound.specs.Whole.{whole_item_layer, whole_optional, whole_start, whole_statement}
use Rattle.c_core_sound.specs.Whole.{whole_suffix}
use Rattle.c_core_sound.proofs.WholeForms.{both}

unfoldable pub suffix_whole : Suffix → Bool
suffix_whole = fold-Suffix Bool Bool whole_expression whole_suffix

unfoldable pub statement_whole : Statement → Bool
statement_whole = fold-Statement Bool Bool whole_item_layer whole_statement

rolled : (x : Expression-F Expression Suffix) → is_whole (roll-Expression x)
    ≡ whole_expression (map-Expression Expression Suffix Bool Bool is_whole suffix_whole x)
unfolding is_whole suffix_whole
rolled x = fold-roll-Expression Bool Bool whole_expression whole_suffix x

rolled_suffix : (x : Suffix-F Expression Suffix) → suffix_whole (roll-Suffix x)
    ≡ whole_suffix (map-Suffix Expression Suffix Bool Bool is_whole suffix_whole x)
unfolding is_whole suffix_whole
rolled_suffix x = fold-roll-Suffix Bool Bool whole_expression whole_suffix x

rolled_statement : (x : Statement-F BlockItem Statement) → statement_whole (roll-Statement x)
    ≡ whole_statement
    (map-Statement BlockItem Statement Bool Bool whole_block_item statement_whole x)
unfolding whole_block_item statement_whole
rolled_statement x = fold-roll-Statement Bool Bool whole_item_layer whole_statement x

rolled_item : (x : BlockItem-F BlockItem Statement) → whole_block_item (roll-BlockItem x)
    ≡ whole_item_layer
    (map-BlockItem BlockItem Statement Bool Bool whole_block_item statement_whole x)
unfolding whole_block_item statement_whole
rolled_item x = fold-roll-BlockItem Bool Bool whole_item_layer whole_statement x

-- expressions

pub name_whole : (name : Name) → is_whole (expression.Name name) ≡ true
name_whole name =
    ap is_whole (sym (expression.rolls-Name name)) ∙ rolled (Expression-F.Name name)

pub number_whole : (t : IntType) (n : ℤ) (place : ℕ) → has_value t n ≡ true →
    is_whole (expression.Number t n place) ≡ true
number_whole t n place h =
    ap is_whole (sym (expression.rolls-Number t n place)) ∙ rolled (Expression-F.Number t n place)
    ∙ h

pub character_whole : (n : ℤ) (place : ℕ) → has_value ty.I32 n ≡ true →
    is_whole (expression.Character n place) ≡ true
character_whole n place h =
    ap is_whole (sym (expression.rolls-Character n place))
    ∙ rolled (Expression-F.Character n place) ∙ h

pub bracketed_whole : (inner : Expression) (place : ℕ) → is_whole inner ≡ true →
    is_whole (expression.Bracketed inner place) ≡ true
bracketed_whole inner place h =
    ap is_whole (sym (expression.rolls-Bracketed inner place))
    ∙ rolled (Expression-F.Bracketed inner place) ∙ h

pub postfix_whole : (base : Expression) (more : List Suffix) (place : ℕ) →
    is_whole base ≡ true → all_whole (map suffix_whole more) ≡ true →
    is_whole (expression.Postfix place base more) ≡ true
postfix_whole base more place h k =
    ap is_whole (sym (expression.rolls-Postfix place base more))
    ∙ rolled (Expression-F.Postfix place base more) ∙ both h k

pub prefix_whole : (operator : StepOperator) (operand : Expression) (place : ℕ) →
    is_whole operand ≡ true → is_whole (expression.PrefixStep operator operand place) ≡ true
prefix_whole operator operand place h =
    ap is_whole (sym (expression.rolls-PrefixStep operator operand place))
    ∙ rolled (Expression-F.PrefixStep operator operand place) ∙ h

pub unary_whole : (operator : UnaryOperator) (operand : Expression) (place : ℕ) →
    is_whole operand ≡ true → is_whole (expression.Unary operator operand place) ≡ true
unary_whole operator operand place h =
    ap is_whole (sym (expression.rolls-Unary operator operand place))
    ∙ rolled (Expression-F.Unary operator operand place) ∙ h

pub cast_whole : (to : TypeName) (operand : Expression) (place : ℕ) → is_whole operand ≡ true →
    is_whole (expression.Cast to operand place) ≡ true
cast_whole to operand place h =
    ap is_whole (sym (expression.rolls-Cast to operand place))
    ∙ rolled (Expression-F.Cast to operand place) ∙ h

abbrev pub link_whole : BinaryOperator × Expression → Bool
link_whole link = is_whole link.1

links_map : (links : List (BinaryOperator × Expression)) →
    map (λ (link : BinaryOperator × Bool). link.1)
    (map (λ (link : BinaryOperator × Expression). (link.0, is_whole link.1)) links)
    ≡ map link_whole links
links_map [] = refl
links_map (link ∷ links) = ap (λ bs. is_whole link.1 ∷ bs) (links_map links)

pub chain_whole : (first : Expression) (rest : List (BinaryOperator × Expression)) (place : ℕ) →
    is_whole first ≡ true → all_whole (map link_whole rest) ≡ true →
    is_whole (expression.Chain place first rest) ≡ true
chain_whole first rest place h k =
    ap is_whole (sym (expression.rolls-Chain place first rest))
    ∙ rolled (Expression-F.Chain place first rest) ∙ both h (ap all_whole (links_map rest) ∙ k)

pub conditional_whole : (test first second : Expression) (place : ℕ) → is_whole test ≡ true →
    is_whole first ≡ true → is_whole second ≡ true →
    is_whole (expression.Conditional test first second place) ≡ true
conditional_whole test first second place h k l =
    ap is_whole (sym (expression.rolls-Conditional test first second place))
    ∙ rolled (Expression-F.Conditional test first second place) ∙ both h (both k l)

pub assignment_whole : (left : Expression) (operator : AssignmentOperator) (right : Expression)
    (place : ℕ) → is_whole left ≡ true → is_whole right ≡ true →
    is_whole (expression.Assignment left operator right place) ≡ true
assignment_whole left operator right place h k =
    ap is_whole (sym (expression.rolls-Assignment left operator right place))
    ∙ rolled (Expression-F.Assignment left operator right place) ∙ both h k

pub comma_whole : (first : Expression) (items : List Expression) (place : ℕ) →
    is_whole first ≡ true → all_whole (map is_whole items) ≡ true →
    is_whole (expression.Comma (first ∷ items) place) ≡ true
comma_whole first items place h k =
    ap is_whole (sym (expression.rolls-Comma (first ∷ items) place))
    ∙ rolled (Expression-F.Comma (first ∷ items) place) ∙ both h k

-- suffixes

pub index_whole : (index : Expression) (place : ℕ) → is_whole index ≡ true →
    suffix_whole (suffix.Index index place) ≡ true
index_whole index place h =
    ap suffix_whole (sym (suffix.rolls-Index index place))
    ∙ rolled_suffix (Suffix-F.Index index place) ∙ h

pub call_whole : (given : List Expression) (place : ℕ) →
    all_whole (map is_whole given) ≡ true → suffix_whole (suffix.Call given place) ≡ true
call_whole given place h =
    ap suffix_whole (sym (suffix.rolls-Call given place))
    ∙ rolled_suffix (Suffix-F.Call given place) ∙ h

pub step_whole : (operator : StepOperator) (place : ℕ) →
    suffix_whole (suffix.Step operator place) ≡ true
step_whole operator place =
    ap suffix_whole (sym (suffix.rolls-Step operator place))
    ∙ rolled_suffix (Suffix-F.Step operator place)

pub skipped_whole : (place : ℕ) → suffix_whole (suffix.Skipped place) ≡ true
skipped_whole place =
    ap suffix_whole (sym (suffix.rolls-Skipped place)) ∙ rolled_suffix (Suffix-F.Skipped place)

-- statements

pub block_whole : (items : List BlockItem) (place : ℕ) →
    all_whole (map whole_block_item items) ≡ true →
    statement_whole (node.Block items place) ≡ true
block_whole items place h =
    ap statement_whole (sym (node.rolls-Block items place))
    ∙ rolled_statement (Statement-F.Block items place) ∙ h

pub evaluation_whole : (value : Option Expression) (place : ℕ) → whole_optional value ≡ true →
    statement_whole (node.Expression value place) ≡ true
evaluation_whole value place h =
    ap statement_whole (sym (node.rolls-Expression value place))
    ∙ rolled_statement (Statement-F.Expression value place) ∙ h

abbrev pub else_whole : Option Statement → Type 0
else_whole None = Unit {0}
else_whole (Some statement) = statement_whole statement ≡ true

pub if_whole : (test : Expression) (first : Statement) (second : Option Statement) (place : ℕ) →
    is_whole test ≡ true → statement_whole first ≡ true → else_whole second →
    statement_whole (node.If test first second place) ≡ true
if_whole test first None place h k l =
    ap statement_whole (sym (node.rolls-If test first None place))
    ∙ rolled_statement (Statement-F.If test first None place) ∙ both h (both k refl)
if_whole test first (Some second) place h k l =
    ap statement_whole (sym (node.rolls-If test first (Some second) place))
    ∙ rolled_statement (Statement-F.If test first (Some second) place) ∙ both h (both k l)

pub while_whole : (test : Expression) (body : Statement) (place : ℕ) → is_whole test ≡ true →
    statement_whole body ≡ true → statement_whole (node.While test body place) ≡ true
while_whole test body place h k =
    ap statement_whole (sym (node.rolls-While test body place))
    ∙ rolled_statement (Statement-F.While test body place) ∙ both h k

pub do_whole : (body : Statement) (test : Expression) (place : ℕ) →
    statement_whole body ≡ true → is_whole test ≡ true →
    statement_whole (node.Do body test place) ≡ true
do_whole body test place h k =
    ap statement_whole (sym (node.rolls-Do body test place))
    ∙ rolled_statement (Statement-F.Do body test place) ∙ both h k

pub for_whole : (first : ForStart) (test step : Option Expression) (body : Statement)
    (place : ℕ) → whole_start first ≡ true → whole_optional test ≡ true →
    whole_optional step ≡ true → statement_whole body ≡ true →
    statement_whole (node.For first test step body place) ≡ true
for_whole first test step body place h k l m =
    ap statement_whole (sym (node.rolls-For first test step body place))
    ∙ rolled_statement (Statement-F.For first test step body place)
    ∙ both h (both k (both l m))

pub switch_whole : (value : Expression) (body : Statement) (place : ℕ) → is_whole value ≡ true →
    statement_whole body ≡ true → statement_whole (node.Switch value body place) ≡ true
switch_whole value body place h k =
    ap statement_whole (sym (node.rolls-Switch value body place))
    ∙ rolled_statement (Statement-F.Switch value body place) ∙ both h k

pub case_whole : (value : Expression) (body : Statement) (place : ℕ) → is_whole value ≡ true →
    statement_whole body ≡ true → statement_whole (node.Case value body place) ≡ true
case_whole value body place h k =
    ap statement_whole (sym (node.rolls-Case value body place))
    ∙ rolled_statement (Statement-F.Case value body place) ∙ both h k

pub default_whole : (body : Statement) (place : ℕ) → statement_whole body ≡ true →
    statement_whole (node.Default body place) ≡ true
default_whole body place h =
    ap statement_whole (sym (node.rolls-Default body place))
    ∙ rolled_statement (Statement-F.Default body place) ∙ h

pub goto_whole : (label : Name) (place : ℕ) → statement_whole (node.Goto label place) ≡ true
goto_whole label place =
    ap statement_whole (sym (node.rolls-Goto label place))
    ∙ rolled_statement (Statement-F.Goto label place)

pub break_whole : (place : ℕ) → statement_whole (node.Break place) ≡ true
break_whole place =
    ap statement_whole (sym (node.rolls-Break place)) ∙ rolled_statement (Statement-F.Break place)

pub continue_whole : (place : ℕ) → statement_whole (node.Continue place) ≡ true
continue_whole place =
    ap statement_whole (sym (node.rolls-Continue place))
    ∙ rolled_statement (Statement-F.Continue place)

pub return_whole : (value : Option Expression) (place : ℕ) → whole_optional value ≡ true →
    statement_whole (node.Return value place) ≡ true
return_whole value place h =
    ap statement_whole (sym (node.rolls-Return value place))
    ∙ rolled_statement (Statement-F.Return value place) ∙ h

pub labeled_whole : (label : Name) (body : Statement) → statement_whole body ≡ true →
    statement_whole (node.Labeled label body) ≡ true
labeled_whole label body h =
    ap statement_whole (sym (node.rolls-Labeled label body))
    ∙ rolled_statement (Statement-F.Labeled label body) ∙ h

pub declared_whole : (declaration : Declaration) → whole_declaration declaration ≡ true →
    whole_block_item (in_block.Declaration declaration) ≡ true
declared_whole declaration h =
    ap whole_block_item (sym (in_block.rolls-Declaration declaration))
    ∙ rolled_item (BlockItem-F.Declaration declaration) ∙ h

pub stated_whole : (statement : Statement) → statement_whole statement ≡ true →
    whole_block_item (in_block.Statement statement) ≡ true
stated_whole statement h =
    ap whole_block_item (sym (in_block.rolls-Statement statement))
    ∙ rolled_item (BlockItem-F.Statement statement) ∙ h
