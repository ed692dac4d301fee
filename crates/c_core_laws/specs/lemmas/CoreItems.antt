-- The rules of a statement, opened at its node.
use Rattle.std.proofs.Common.{◌≡◌}
use Rattle.c_types_rules.specs.declared.typed.TypedItem.{TypedItem, roll-TypedItem}
use Rattle.c_types_rules.specs.declared.typed.TypedItem.TheOpen.{TypedItem-F, TypedStatement-F}
use Rattle.c_types_rules.specs.declared.typed.TypedItem.TheFolds.{map-TypedItem, map-TypedStatement}
use Rattle.c_types_rules.specs.declared.typed.TypedItem.TheFolds.{fold-roll-TypedItem}
use Rattle.c_types_rules.specs.declared.typed.TypedItem.TheFolds.{fold-roll-TypedStatement}
use Rattle.c_types_rules.specs.declared.typed.TypedStatement.{TypedStatement, roll-TypedStatement}
use Rattle.c_core_rules.specs.declared.tree.Location.{Location}
use Rattle.cpa_model_trees.specs.Numbering.{Trees}
use Rattle.c_core_rules.specs.Cells.{Rule}
use Rattle.c_core_rules.specs.Expressions.{Frames}
use Rattle.c_core_rules.specs.Statements.{item_rule, item_step, statement_step}
pub use Rattle.c_core_laws.specs.Labels.{core_statement}

pub open_core_item : (frames : Frames) (place : Location)
    (x : TypedItem-F TypedItem TypedStatement) →
    item_rule frames place (roll-TypedItem x)
    ≡ item_step frames (map-TypedItem TypedItem TypedStatement (Rule Trees) (Rule Trees)
    (item_rule frames place) (core_statement frames place) x)
unfolding item_rule
open_core_item frames place x =
    fold-roll-TypedItem (Rule Trees) (Rule Trees) (item_step frames) (statement_step frames place) x

pub open_core_statement : (frames : Frames) (place : Location)
    (x : TypedStatement-F TypedItem TypedStatement) →
    core_statement frames place (roll-TypedStatement x)
    ≡ statement_step frames place (map-TypedStatement TypedItem TypedStatement (Rule Trees)
    (Rule Trees) (item_rule frames place) (core_statement frames place) x)
unfolding item_rule
open_core_statement frames place x =
    fold-roll-TypedStatement (Rule Trees) (Rule Trees) (item_step frames)
    (statement_step frames place) x
