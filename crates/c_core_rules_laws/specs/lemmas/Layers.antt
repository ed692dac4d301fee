-- The rules of an expression and of a statement, opened at their nodes.
use Rattle.std.proofs.Common.{◌≡◌}
use Rattle.c_types_rules.specs.declared.typed.TypedExpression.{TypedExpression}
use Rattle.c_types_rules.specs.declared.typed.TypedExpression.{roll-TypedExpression}
use Rattle.c_types_rules.specs.declared.typed.TypedExpression.TheOpen.{TypedExpression-F}
use Rattle.c_types_rules.specs.declared.typed.TypedExpression.TheOpen.{TypedSuffix-F}
use Rattle.c_types_rules.specs.declared.typed.TypedExpression.TheFolds.{fold-TypedSuffix}
use Rattle.c_types_rules.specs.declared.typed.TypedExpression.TheFolds.{map-TypedExpression}
use Rattle.c_types_rules.specs.declared.typed.TypedExpression.TheFolds.{map-TypedSuffix}
use Rattle.c_types_rules.specs.declared.typed.TypedExpression.TheFolds.{fold-roll-TypedExpression}
use Rattle.c_types_rules.specs.declared.typed.TypedExpression.TheFolds.{fold-roll-TypedSuffix}
use Rattle.c_types_rules.specs.declared.typed.TypedSuffix.{TypedSuffix, roll-TypedSuffix}
use Rattle.c_types_rules.specs.declared.typed.TypedItem.{TypedItem, roll-TypedItem}
use Rattle.c_types_rules.specs.declared.typed.TypedItem.TheOpen.{TypedItem-F, TypedStatement-F}
use Rattle.c_types_rules.specs.declared.typed.TypedItem.TheFolds.{map-TypedItem, map-TypedStatement}
use Rattle.c_types_rules.specs.declared.typed.TypedItem.TheFolds.{fold-TypedStatement}
use Rattle.c_types_rules.specs.declared.typed.TypedItem.TheFolds.{fold-roll-TypedItem}
use Rattle.c_types_rules.specs.declared.typed.TypedItem.TheFolds.{fold-roll-TypedStatement}
use Rattle.c_types_rules.specs.declared.typed.TypedStatement.{TypedStatement, roll-TypedStatement}
use Rattle.cpa_model_trees.specs.Numbering.{Trees}
use Rattle.c_core_rules.specs.declared.tree.Location.{Location}
use Rattle.c_core_rules.specs.Cells.{Rule}
use Rattle.c_core_rules.specs.Expressions.{Frames, Rows, ReadSuffix, rows, rows_step, read_suffix}
use Rattle.c_core_rules.specs.Statements.{item_rule, item_step, statement_step}

-- the rules of a suffix, as `rows` of an expression
abbrev pub suffix_rule : Frames → TypedSuffix → ReadSuffix
suffix_rule frames = fold-TypedSuffix Rows ReadSuffix (rows_step frames) read_suffix

pub open_rows : (frames : Frames) (x : TypedExpression-F TypedExpression TypedSuffix) →
    rows frames (roll-TypedExpression x)
    ≡ rows_step frames (map-TypedExpression TypedExpression TypedSuffix Rows ReadSuffix
    (rows frames) (suffix_rule frames) x)
unfolding rows
open_rows frames x = fold-roll-TypedExpression Rows ReadSuffix (rows_step frames) read_suffix x

pub open_suffix : (frames : Frames) (x : TypedSuffix-F TypedExpression TypedSuffix) →
    suffix_rule frames (roll-TypedSuffix x)
    ≡ read_suffix (map-TypedSuffix TypedExpression TypedSuffix Rows ReadSuffix (rows frames)
    (suffix_rule frames) x)
unfolding rows
open_suffix frames x = fold-roll-TypedSuffix Rows ReadSuffix (rows_step frames) read_suffix x

-- the rule of a statement, as `item_rule` of an item
abbrev pub statement_rule : Frames → Location → TypedStatement → Rule Trees
statement_rule frames place =
    fold-TypedStatement (Rule Trees) (Rule Trees) (item_step frames) (statement_step frames place)

pub open_item : (frames : Frames) (place : Location) (x : TypedItem-F TypedItem TypedStatement) →
    item_rule frames place (roll-TypedItem x)
    ≡ item_step frames (map-TypedItem TypedItem TypedStatement (Rule Trees) (Rule Trees)
    (item_rule frames place) (statement_rule frames place) x)
unfolding item_rule
open_item frames place x =
    fold-roll-TypedItem (Rule Trees) (Rule Trees) (item_step frames) (statement_step frames place) x

pub open_statement : (frames : Frames) (place : Location)
    (x : TypedStatement-F TypedItem TypedStatement) →
    statement_rule frames place (roll-TypedStatement x)
    ≡ statement_step frames place (map-TypedStatement TypedItem TypedStatement (Rule Trees)
    (Rule Trees) (item_rule frames place) (statement_rule frames place) x)
unfolding item_rule
open_statement frames place x =
    fold-roll-TypedStatement (Rule Trees) (Rule Trees) (item_step frames)
    (statement_step frames place) x
