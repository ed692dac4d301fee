-- Which programs have trees (this project's own).
use Rattle.std.specs.Prelude.{ℕ, List}
use Rattle.cpa_model.specs.declared.program.Stmt.TheVariants as stmt
use Rattle.cpa_model.specs.declared.program.Program.{Program}
use Rattle.cpa_model.specs.Programs.{IsStmt, IsNumbered, InFunction}
use Rattle.cpa_model_trees.specs.Numbering.{Trees, AreTreesOf}
use Rattle.cpa_model_trees.specs.Shapes.{AllShaped, Anything}

-- each goto leads to a block of the function in which it stands
abbrev pub GotosStay : Program → Type 0
GotosStay P =
    (n to f : ℕ) → IsStmt P n (stmt.Goto to) → InFunction P f n
    → InFunction P f to × (items : List ℕ) × IsStmt P to (stmt.Block items)

-- the program is that of some trees, whose nodes have the parts of their heads
pub record HasTrees (P : Program) : Type 0 where
  pub trees : Trees
  pub shaped : AllShaped Anything trees
  pub are : AreTreesOf P trees

abbrev pub ProgramsHaveTrees : Type 0
ProgramsHaveTrees = (P : Program) → IsNumbered P → GotosStay P → HasTrees P
