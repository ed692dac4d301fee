-- Which statement of a tree a statement of a core is (the numbering is this project's own).
use Rattle.std.specs.Prelude.{◌≡◌, ℕ, List, Some, slice_get}
use Rattle.cpa_model.specs.declared.program.Stmt.{Stmt}
use Rattle.cpa_model.specs.declared.program.Program.{Program}
use Rattle.cpa_model.specs.Programs.{InFunction}
use Rattle.cpa_model_trees.specs.declared.tree.CoreTree.{CoreTree}
use Rattle.cpa_model_trees.specs.Numbering.{Trees, Placed, statements, stmt_of}

-- the statement s of number n stands in a function, and is one of those of its tree, where these
-- are the trees of the functions
pub record IsOfTree (trees : Trees) (P : Program) (n : ℕ) (s : Stmt) : Type 0 where
  pub function : ℕ
  pub tree : CoreTree
  pub is_tree : slice_get trees function ≡ Some tree
  pub inside : InFunction P function n
  pub index : ℕ
  pub placed : Placed
  pub among : slice_get (statements tree) index ≡ Some placed
  pub labels : List ℕ
  pub parts : List ℕ
  pub is : s ≡ stmt_of labels placed.head parts
