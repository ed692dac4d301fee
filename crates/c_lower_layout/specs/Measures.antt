-- The size of a text's core, gathered statement by statement (this project's own).
use Rattle.std.specs.Prelude.{ℕ, ◌+◌, ◌≤◌, max, List, [], ◌∷◌, ◌++◌, length}
use Rattle.cpa_expr.specs.declared.shape.TheConstants.{MAX_HEIGHT}
use Rattle.cpa_model.specs.declared.program.TheConstants.{MAX_CELLS, MAX_POINTS}
use Rattle.cpa_model_trees.specs.Numbering.{Trees}
use Rattle.c_core_rules.specs.Cells.{Taken}
use Rattle.c_core_rules_laws.specs.Sizes.{heights_of}
use Rattle.c_lower_layout.specs.declared.sizes.Size.{Size}

-- no statement
abbrev pub nothing : Size
nothing = record { points = 0; tallest = 0 }

-- statements more, of these heights
abbrev pub grown : Size → List ℕ → Size
grown size [] = size
grown size (height ∷ heights) =
    grown (record { points = size.points + 1; tallest = max size.tallest height }) heights

-- the heights at the points of functions: those of the statements of each, and an exit
abbrev pub marks_of : Trees → List ℕ
marks_of [] = []
marks_of (tree ∷ trees) = (heights_of (tree ∷ []) ++ 0 ∷ []) ++ marks_of trees

-- so many cells and points are no more than a program may have, and no expression is higher
pub record Fits (cells : ℕ) (size : Size) : Type 0 where
  pub few_cells : cells ≤ MAX_CELLS
  pub few_points : size.points ≤ MAX_POINTS
  pub low : size.tallest ≤ MAX_HEIGHT

abbrev pub IsWithin : Taken → Size → Type 0
IsWithin taken size = Fits (length taken.cells) size
