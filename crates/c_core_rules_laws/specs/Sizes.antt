-- How large trees of core statements are: their points, and how high the highest of their
-- expressions is; and what a program may have (this project's own).
use Rattle.std.specs.Prelude.{ℕ, ◌+◌, ◌≤◌, max, List, map, length}
use Rattle.cpa_expr.specs.declared.shape.TheConstants.{MAX_HEIGHT}
use Rattle.cpa_expr.specs.Shape.{height, greatest}
use Rattle.cpa_model.specs.declared.program.TheConstants.{MAX_CELLS, MAX_POINTS}
use Rattle.cpa_model_trees.specs.declared.tree.Head.{Head}
use Rattle.cpa_model_trees.specs.declared.tree.Head.TheVariants as head
use Rattle.cpa_model_trees.specs.Numbering.{Trees}
use Rattle.cpa_model_trees.specs.Rows.{row_of}
use Rattle.c_core_rules.specs.Cells.{Made}

-- the height of the highest expression of a statement
abbrev pub head_height : Head → ℕ
head_height (head.If test) = height test
head_height (head.Assign base len index value) = max (height index) (height value)
head_height _ = 0

-- those of the statements of trees, in the order of the trees
unfoldable pub heights_of : Trees → List ℕ
heights_of trees = map (λ placed. head_height placed.head) (row_of trees)

-- of functions with these trees: a point for each statement, and one for each exit
abbrev pub points_of : Trees → ℕ
points_of trees = length (heights_of trees) + length trees

abbrev pub tallest_of : Trees → ℕ
tallest_of trees = greatest (heights_of trees)

-- what is made of a text is no larger than a program may be
pub record IsWithinLimits (text : Made Trees) : Type 0 where
  pub cells : length text.taken.cells ≤ MAX_CELLS
  pub points : points_of text.made ≤ MAX_POINTS
  pub heights : tallest_of text.made ≤ MAX_HEIGHT
