-- Each form of a statement and of an item of a block, by its parts.
use Rattle.std.proofs.Common.{◌≡◌, ℕ, List, map, Option, Some, None, option_map, sym, ap, ◌∙◌}
use Rattle.c_grammar_tree.specs.declared.name.Name.{Name}
use Rattle.c_grammar_tree.specs.declared.expression.Expression.{Expression}
use Rattle.c_grammar_tree.specs.declared.declaration.Declaration.{Declaration}
use Rattle.c_grammar_tree.specs.declared.statement.ForStart.{ForStart}
use Rattle.c_grammar_tree.specs.declared.statement.Statement.{Statement, roll-Statement}
use Rattle.c_grammar_tree.specs.declared.statement.Statement.TheVariants as tree
use Rattle.c_grammar_tree.specs.declared.statement.BlockItem.{BlockItem, roll-BlockItem}
use Rattle.c_grammar_tree.specs.declared.statement.BlockItem.TheVariants as item
use Rattle.c_grammar_tree.specs.declared.statement.BlockItem.TheOpen.{BlockItem-F, Statement-F}
use Rattle.c_grammar_tree.specs.declared.statement.BlockItem.TheFolds.{fold-BlockItem}
use Rattle.c_grammar_tree.specs.declared.statement.BlockItem.TheFolds.{fold-Statement}
use Rattle.c_grammar_tree.specs.declared.statement.BlockItem.TheFolds.{fold-roll-BlockItem}
use Rattle.c_grammar_tree.specs.declared.statement.BlockItem.TheFolds.{fold-roll-Statement}
use Rattle.c_grammar_tree.specs.declared.statement.BlockItem.TheFolds.{map-BlockItem, map-Statement}
use Rattle.c_types_rules.specs.declared.typed.TypedStatement.{TypedStatement}
use Rattle.c_types_rules.specs.declared.typed.TypedItem.{TypedItem}
use Rattle.c_types_rules.specs.Names.{Text}
use Rattle.c_types_rules.specs.TypedStatements.{Grown, grown, grown_item, grown_statement}
use Rattle.c_types_rules.specs.declared.meaning.Role.TheVariants.{Valued}
use Rattle.c_types_rules.specs.declared.typed.TypedStatement.TheVariants as typed_tree
use Rattle.c_types_rules.specs.declared.typed.Choice.{Choice}
use Rattle.c_types_rules.specs.declared.typed.TypedForStart.{TypedForStart}
use Rattle.c_types_rules.specs.declared.typed.TypedExpression.{TypedExpression}
use Rattle.c_types_rules.specs.Statements.{followed, doing, evaluates, perhaps}
use Rattle.c_types_rules.specs.TypedStatements.{typed_expression}
use Rattle.c_types_bodies.specs.Grown.{grown_of, walk_of_statement, grown_typed}

-- a typed for, by its parts
pub for_same : (a one : TypedForStart) (b two : Option TypedExpression)
    (c three : Option TypedExpression) (d four : TypedStatement) (place : ℕ) → a ≡ one → b ≡ two
    → c ≡ three → d ≡ four → typed_tree.For a b c d place ≡ typed_tree.For one two three four place
for_same a one b two c three d four place e f g h =
    ap (λ (x : TypedForStart). typed_tree.For x b c d place) e
    ∙ ap (λ (x : Option TypedExpression). typed_tree.For one x c d place) f
    ∙ ap (λ (x : Option TypedExpression). typed_tree.For one two x d place) g
    ∙ ap (λ (x : TypedStatement). typed_tree.For one two three x place) h

pub if_same : (a one : TypedExpression) (b two : TypedStatement) (c three : Option TypedStatement)
    (place : ℕ) → a ≡ one → b ≡ two → c ≡ three
    → typed_tree.If a b c place ≡ typed_tree.If one two three place
if_same a one b two c three place e f g =
    ap (λ (x : TypedExpression). typed_tree.If x b c place) e
    ∙ ap (λ (x : TypedStatement). typed_tree.If one x c place) f
    ∙ ap (λ (x : Option TypedStatement). typed_tree.If one two x place) g

pub labeled_same : (n one : ℕ) (a two : TypedStatement) (place : ℕ) → n ≡ one → a ≡ two
    → typed_tree.Labeled n a place ≡ typed_tree.Labeled one two place
labeled_same n one a two place e f =
    ap (λ (x : ℕ). typed_tree.Labeled x a place) e
    ∙ ap (λ (x : TypedStatement). typed_tree.Labeled one x place) f

-- a typed switch, by its parts
pub switch_same : (a one : TypedExpression) (b two : List Choice) (c three : ℕ)
    (d four : TypedStatement) (e five place : ℕ) → a ≡ one → b ≡ two → c ≡ three → d ≡ four
    → e ≡ five
    → typed_tree.Switch a b c d e place ≡ typed_tree.Switch one two three four five place
switch_same a one b two c three d four e five place f g h i j =
    ap (λ (x : TypedExpression). typed_tree.Switch x b c d e place) f
    ∙ ap (λ (x : List Choice). typed_tree.Switch one x c d e place) g
    ∙ ap (λ (x : ℕ). typed_tree.Switch one two x d e place) h
    ∙ ap (λ (x : TypedStatement). typed_tree.Switch one two three x e place) i
    ∙ ap (λ (x : ℕ). typed_tree.Switch one two three four x place) j

module _ (text : Text) where
  opened : (s : Statement) (x : Statement-F BlockItem Statement) → roll-Statement x ≡ s →
      grown_of text s ≡ grown_statement text (map-Statement BlockItem Statement (Grown TypedItem)
      (Grown TypedStatement) (grown text) (grown_of text) x)
  unfolding grown grown_of
  opened s x is =
      ap (fold-Statement (Grown TypedItem) (Grown TypedStatement) (grown_item text)
      (grown_statement text)) (sym is)
      ∙ fold-roll-Statement (Grown TypedItem) (Grown TypedStatement) (grown_item text)
      (grown_statement text) x

  opened_item : (s : BlockItem) (x : BlockItem-F BlockItem Statement) → roll-BlockItem x ≡ s →
      grown text s ≡ grown_item text (map-BlockItem BlockItem Statement (Grown TypedItem)
      (Grown TypedStatement) (grown text) (grown_of text) x)
  unfolding grown grown_of
  opened_item s x is =
      ap (fold-BlockItem (Grown TypedItem) (Grown TypedStatement) (grown_item text)
      (grown_statement text)) (sym is)
      ∙ fold-roll-BlockItem (Grown TypedItem) (Grown TypedStatement) (grown_item text)
      (grown_statement text) x

  pub of_Declaration : (declaration : Declaration) →
      grown text (item.Declaration declaration)
      ≡ grown_item text (BlockItem-F.Declaration declaration)
  of_Declaration declaration =
      opened_item (item.Declaration declaration) (BlockItem-F.Declaration declaration)
      (item.rolls-Declaration declaration)

  pub of_Statement : (statement : Statement) →
      grown text (item.Statement statement)
      ≡ grown_item text (BlockItem-F.Statement (grown_of text statement))
  of_Statement statement =
      opened_item (item.Statement statement) (BlockItem-F.Statement statement)
      (item.rolls-Statement statement)

  pub of_Block : (items : List BlockItem) (place : ℕ) →
      grown_of text (tree.Block items place)
      ≡ grown_statement text (Statement-F.Block (map (grown text) items) place)
  of_Block items place =
      opened (tree.Block items place) (Statement-F.Block items place) (tree.rolls-Block items place)

  pub of_Expression : (expression : Option Expression) (place : ℕ) →
      grown_of text (tree.Expression expression place)
      ≡ grown_statement text (Statement-F.Expression expression place)
  of_Expression expression place =
      opened (tree.Expression expression place) (Statement-F.Expression expression place)
      (tree.rolls-Expression expression place)

  pub of_If : (test : Expression) (first : Statement) (second : Option Statement) (place : ℕ) →
      grown_of text (tree.If test first second place) ≡ record {
        walk = followed (doing (evaluates Valued test)) (followed (grown_of text first).walk
            (perhaps (option_map (walk_of_statement text) second)));
        typed = λ around. typed_tree.If (typed_expression text around test)
            ((grown_of text first).typed around)
            (option_map (grown_typed text ((grown_of text first).walk.behind around)) second) place;
      }
  of_If test first None place =
      opened (tree.If test first None place) (Statement-F.If test first None place)
      (tree.rolls-If test first None place)
  of_If test first (Some second) place =
      opened (tree.If test first (Some second) place) (Statement-F.If test first (Some second)
      place)
      (tree.rolls-If test first (Some second) place)

  pub of_While : (test : Expression) (body : Statement) (place : ℕ) →
      grown_of text (tree.While test body place)
      ≡ grown_statement text (Statement-F.While test (grown_of text body) place)
  of_While test body place =
      opened (tree.While test body place) (Statement-F.While test body place)
      (tree.rolls-While test body place)

  pub of_Do : (body : Statement) (test : Expression) (place : ℕ) →
      grown_of text (tree.Do body test place)
      ≡ grown_statement text (Statement-F.Do (grown_of text body) test place)
  of_Do body test place =
      opened (tree.Do body test place) (Statement-F.Do body test place)
      (tree.rolls-Do body test place)

  pub of_For : (start : ForStart) (test step : Option Expression) (body : Statement) (place : ℕ) →
      grown_of text (tree.For start test step body place)
      ≡ grown_statement text (Statement-F.For start test step (grown_of text body) place)
  of_For start test step body place =
      opened (tree.For start test step body place) (Statement-F.For start test step body place)
      (tree.rolls-For start test step body place)

  pub of_Goto : (label : Name) (place : ℕ) →
      grown_of text (tree.Goto label place) ≡ grown_statement text (Statement-F.Goto label place)
  of_Goto label place =
      opened (tree.Goto label place) (Statement-F.Goto label place) (tree.rolls-Goto label place)

  pub of_Break : (place : ℕ) →
      grown_of text (tree.Break place) ≡ grown_statement text (Statement-F.Break place)
  of_Break place =
      opened (tree.Break place) (Statement-F.Break place) (tree.rolls-Break place)

  pub of_Continue : (place : ℕ) →
      grown_of text (tree.Continue place) ≡ grown_statement text (Statement-F.Continue place)
  of_Continue place =
      opened (tree.Continue place) (Statement-F.Continue place) (tree.rolls-Continue place)

  pub of_Return : (value : Option Expression) (place : ℕ) →
      grown_of text (tree.Return value place)
      ≡ grown_statement text (Statement-F.Return value place)
  of_Return value place =
      opened (tree.Return value place) (Statement-F.Return value place)
      (tree.rolls-Return value place)

  pub of_Labeled : (label : Name) (body : Statement) →
      grown_of text (tree.Labeled label body)
      ≡ grown_statement text (Statement-F.Labeled label (grown_of text body))
  of_Labeled label body =
      opened (tree.Labeled label body) (Statement-F.Labeled label body)
      (tree.rolls-Labeled label body)

  pub of_Switch : (value : Expression) (body : Statement) (place : ℕ) →
      grown_of text (tree.Switch value body place)
      ≡ grown_statement text (Statement-F.Switch value (grown_of text body) place)
  of_Switch value body place =
      opened (tree.Switch value body place) (Statement-F.Switch value body place)
      (tree.rolls-Switch value body place)

  pub of_Case : (value : Expression) (body : Statement) (place : ℕ) →
      grown_of text (tree.Case value body place)
      ≡ grown_statement text (Statement-F.Case value (grown_of text body) place)
  of_Case value body place =
      opened (tree.Case value body place) (Statement-F.Case value body place)
      (tree.rolls-Case value body place)

  pub of_Default : (body : Statement) (place : ℕ) →
      grown_of text (tree.Default body place)
      ≡ grown_statement text (Statement-F.Default (grown_of text body) place)
  of_Default body place =
      opened (tree.Default body place) (Statement-F.Default body place)
      (tree.rolls-Default body place)
