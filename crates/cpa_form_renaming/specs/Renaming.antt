-- An expression over a program's cells as one over the cells at their places (this project's own).
use Rattle.std.specs.Prelude.{◌&&◌, Bool, true, IsTrue, List}
use Rattle.std.specs.List.{list_all}
use Rattle.cpa_expr.specs.declared.tree.Expr.{Expr, roll-Expr}
use Rattle.cpa_expr.specs.declared.tree.Expr.TheOpen.{Expr-F}
use Rattle.cpa_expr.specs.declared.tree.Expr.TheFolds.{fold-Expr}
use Rattle.cpa_ints.specs.declared.integers.IntType.{IntType}
use Rattle.cpa_expr.specs.Shape.{parts, IsTyped}
use Rattle.cpa_form_renaming.specs.declared.places.Place.{Place}
use Rattle.cpa_form_renaming.specs.Places.{number_at, stand_together}

-- the node itself: a read begins at the place of its first cell
abbrev pub moved_node : {A : Type 0} → List Place → Expr-F A → Expr-F A
moved_node places (Expr-F.Read t base len index) =
    Expr-F.Read t (number_at places base) len index
moved_node places node = node

-- the expression with each read at the place of its first cell
abbrev pub renamed : List Place → Expr → Expr
renamed places = fold-Expr Expr (λ node. roll-Expr (moved_node places node))

-- the cells that the node itself reads stand one behind the other
abbrev pub is_whole_here : {A : Type 0} → List Place → Expr-F A → Bool
is_whole_here places (Expr-F.Read t base len index) = stand_together places base len
is_whole_here places _ = true

-- a node, with whether each part is whole in its place
abbrev pub whole_step : List Place → Expr-F Bool → Bool
whole_step places node = is_whole_here places node && list_all (λ whole. whole) (parts node)

-- each array that the expression reads stands in one piece, so that it can be read at the places
abbrev pub is_whole : List Place → Expr → Bool
is_whole places = fold-Expr Bool (whole_step places)

-- a well-typed expression whose arrays stand in one piece
pub record IsReadable (places : List Place) (types : List IntType) (e : Expr) : Type 0 where
  pub typed : IsTyped types e
  pub whole : IsTrue (is_whole places e)
