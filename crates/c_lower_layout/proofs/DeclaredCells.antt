-- The cells of the objects that a statement declares, by its parts (`opened`).
use Rattle.std.proofs.Common.{◌≡◌, ℕ, ◌+◌, List, Option, None, Some, ap, sym, ◌∙◌}
use Rattle.c_types_rules.specs.declared.typed.Choice.{Choice}
use Rattle.c_types_rules.specs.declared.typed.TypedDeclarator.{TypedDeclarator}
use Rattle.c_types_rules.specs.declared.typed.TypedExpression.{TypedExpression}
use Rattle.c_types_rules.specs.declared.typed.TypedForStart.{TypedForStart}
use Rattle.c_types_rules.specs.declared.typed.TypedItem.{TypedItem, roll-TypedItem}
use Rattle.c_types_rules.specs.declared.typed.TypedItem.TheVariants as item
use Rattle.c_types_rules.specs.declared.typed.TypedItem.TheOpen.{TypedItem-F, TypedStatement-F}
use Rattle.c_types_rules.specs.declared.typed.TypedItem.TheFolds.{map-TypedItem, map-TypedStatement}
use Rattle.c_types_rules.specs.declared.typed.TypedItem.TheFolds.{fold-roll-TypedItem}
use Rattle.c_types_rules.specs.declared.typed.TypedItem.TheFolds.{fold-roll-TypedStatement}
use Rattle.c_types_rules.specs.declared.typed.TypedStatement.{TypedStatement, roll-TypedStatement}
use Rattle.c_types_rules.specs.declared.typed.TypedStatement.TheVariants as tree
use Rattle.c_lower_layout.specs.ObjectCells.{item_step, statement_step, item_cells, statement_cells}
use Rattle.c_lower_layout.specs.ObjectCells.{start_cells, declarators_cells, items_cells}

pub open_statement : (x : TypedStatement-F TypedItem TypedStatement) →
    statement_cells (roll-TypedStatement x)
    ≡ statement_step (map-TypedStatement TypedItem TypedStatement ℕ ℕ item_cells statement_cells x)
unfolding statement_cells item_cells
open_statement x = fold-roll-TypedStatement ℕ ℕ item_step statement_step x

pub open_item : (x : TypedItem-F TypedItem TypedStatement) →
    item_cells (roll-TypedItem x)
    ≡ item_step (map-TypedItem TypedItem TypedStatement ℕ ℕ item_cells statement_cells x)
unfolding statement_cells item_cells
open_item x = fold-roll-TypedItem ℕ ℕ item_step statement_step x

opened : (s : TypedStatement) (x : TypedStatement-F TypedItem TypedStatement) →
    roll-TypedStatement x ≡ s →
    statement_cells s
    ≡ statement_step (map-TypedStatement TypedItem TypedStatement ℕ ℕ item_cells statement_cells x)
opened s x is = ap statement_cells (sym is) ∙ open_statement x

opened_item : (i : TypedItem) (x : TypedItem-F TypedItem TypedStatement) → roll-TypedItem x ≡ i →
    item_cells i
    ≡ item_step (map-TypedItem TypedItem TypedStatement ℕ ℕ item_cells statement_cells x)
opened_item i x is = ap item_cells (sym is) ∙ open_item x

pub cells_Declaration : (declarators : List TypedDeclarator) →
    item_cells (item.Declaration declarators) ≡ declarators_cells declarators
cells_Declaration declarators =
    opened_item (item.Declaration declarators) (TypedItem-F.Declaration declarators)
    (item.rolls-Declaration declarators)

pub cells_Statement : (s : TypedStatement) → item_cells (item.Statement s) ≡ statement_cells s
cells_Statement s =
    opened_item (item.Statement s) (TypedItem-F.Statement s) (item.rolls-Statement s)

pub cells_Block : (items : List TypedItem) (place : ℕ) →
    statement_cells (tree.Block items place) ≡ items_cells items
cells_Block items place =
    opened (tree.Block items place) (TypedStatement-F.Block items place)
    (tree.rolls-Block items place)

pub cells_Expression : (expression : Option TypedExpression) (place : ℕ) →
    statement_cells (tree.Expression expression place) ≡ 0
cells_Expression expression place =
    opened (tree.Expression expression place) (TypedStatement-F.Expression expression place)
    (tree.rolls-Expression expression place)

abbrev pub other_cells : Option TypedStatement → ℕ
other_cells None = 0
other_cells (Some other) = statement_cells other

pub cells_If : (test : TypedExpression) (first : TypedStatement) (second : Option TypedStatement)
    (place : ℕ) →
    statement_cells (tree.If test first second place) ≡ statement_cells first + other_cells second
cells_If test first None place =
    opened (tree.If test first None place) (TypedStatement-F.If test first None place)
    (tree.rolls-If test first None place)
cells_If test first (Some other) place =
    opened (tree.If test first (Some other) place)
    (TypedStatement-F.If test first (Some other) place)
    (tree.rolls-If test first (Some other) place)

pub cells_While : (test : TypedExpression) (body : TypedStatement) (place : ℕ) →
    statement_cells (tree.While test body place) ≡ statement_cells body
cells_While test body place =
    opened (tree.While test body place) (TypedStatement-F.While test body place)
    (tree.rolls-While test body place)

pub cells_Do : (body : TypedStatement) (test : TypedExpression) (place : ℕ) →
    statement_cells (tree.Do body test place) ≡ statement_cells body
cells_Do body test place =
    opened (tree.Do body test place) (TypedStatement-F.Do body test place)
    (tree.rolls-Do body test place)

pub cells_For : (first : TypedForStart) (test step : Option TypedExpression)
    (body : TypedStatement) (place : ℕ) →
    statement_cells (tree.For first test step body place) ≡ start_cells first + statement_cells body
cells_For first test step body place =
    opened (tree.For first test step body place) (TypedStatement-F.For first test step body place)
    (tree.rolls-For first test step body place)

pub cells_Goto : (label : ℕ) (place : ℕ) → statement_cells (tree.Goto label place) ≡ 0
cells_Goto label place =
    opened (tree.Goto label place) (TypedStatement-F.Goto label place) (tree.rolls-Goto label place)

pub cells_Break : (place : ℕ) → statement_cells (tree.Break place) ≡ 0
cells_Break place = opened (tree.Break place) (TypedStatement-F.Break place)
    (tree.rolls-Break place)

pub cells_Continue : (place : ℕ) → statement_cells (tree.Continue place) ≡ 0
cells_Continue place = opened (tree.Continue place) (TypedStatement-F.Continue place)
    (tree.rolls-Continue place)

pub cells_Return : (value : Option TypedExpression) (place : ℕ) →
    statement_cells (tree.Return value place) ≡ 0
cells_Return value place =
    opened (tree.Return value place) (TypedStatement-F.Return value place)
    (tree.rolls-Return value place)

pub cells_Labeled : (label : ℕ) (body : TypedStatement) (place : ℕ) →
    statement_cells (tree.Labeled label body place) ≡ statement_cells body
cells_Labeled label body place =
    opened (tree.Labeled label body place) (TypedStatement-F.Labeled label body place)
    (tree.rolls-Labeled label body place)

pub cells_Switch : (value : TypedExpression) (choices : List Choice) (other : ℕ)
    (body : TypedStatement) (end : ℕ) (place : ℕ) →
    statement_cells (tree.Switch value choices other body end place) ≡ statement_cells body
cells_Switch value choices other body end place =
    opened (tree.Switch value choices other body end place)
    (TypedStatement-F.Switch value choices other body end place)
    (tree.rolls-Switch value choices other body end place)

-- what `statement_cells` of src/declared.rt proves by
pub ruleset statement_cells_rules = (
  cells_Block,
  cells_Expression,
  cells_If,
  cells_While,
  cells_Do,
  cells_For,
  cells_Goto,
  cells_Break,
  cells_Continue,
  cells_Return,
  cells_Labeled,
  cells_Switch,
)

-- what `item_cells` of src/declared.rt proves by
pub ruleset item_cells_rules = (cells_Declaration, cells_Statement)
