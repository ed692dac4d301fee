-- The rules of each form of a statement, and what it is to the rules of a text.
use Rattle.std.proofs.Common.{◌≡◌, sym, ap, ◌∙◌}
use Rattle.c_types_rules.specs.declared.typed.TypedItem.{TypedItem, roll-TypedItem}
use Rattle.c_types_rules.specs.declared.typed.TypedItem.TheOpen.{TypedItem-F, TypedStatement-F}
use Rattle.c_types_rules.specs.declared.typed.TypedItem.TheFolds.{map-TypedItem, map-TypedStatement}
use Rattle.c_types_rules.specs.declared.typed.TypedStatement.{TypedStatement, roll-TypedStatement}
use Rattle.c_core_rules.specs.declared.tree.Location.{Location}
use Rattle.cpa_model_trees.specs.Numbering.{Trees}
use Rattle.c_core_rules.specs.Cells.{Rule}
use Rattle.c_core_rules.specs.Expressions.{Frames}
use Rattle.c_core_rules.specs.Statements.{item_rule, item_step, statement_step}
use Rattle.c_core_laws.specs.lemmas.CoreItems.{core_statement, open_core_item, open_core_statement}

pub opened : (frames : Frames) (place : Location) (s : TypedStatement)
    (x : TypedStatement-F TypedItem TypedStatement) → roll-TypedStatement x ≡ s →
    core_statement frames place s
    ≡ statement_step frames place (map-TypedStatement TypedItem TypedStatement (Rule Trees)
    (Rule Trees) (item_rule frames place) (core_statement frames place) x)
opened frames place s x is =
    ap (core_statement frames place) (sym is) ∙ open_core_statement frames place x

pub opened_item : (frames : Frames) (place : Location) (s : TypedItem)
    (x : TypedItem-F TypedItem TypedStatement) → roll-TypedItem x ≡ s →
    item_rule frames place s
    ≡ item_step frames (map-TypedItem TypedItem TypedStatement (Rule Trees) (Rule Trees)
    (item_rule frames place) (core_statement frames place) x)
opened_item frames place s x is =
    ap (item_rule frames place) (sym is) ∙ open_core_item frames place x
