-- The laws of numbered trees.
use Rattle.cpa_model.specs.declared.program.Program.{Program}
use Rattle.cpa_model.specs.Programs.{IsNumbered}
use Rattle.cpa_model_trees.specs.Numbering.{Trees, AreTreesOf}
use Rattle.cpa_model_trees.specs.Shapes.{AllShaped, Anything}

abbrev pub TreesAreNumbered : Type 0
TreesAreNumbered =
    (trees : Trees) (P : Program) → AllShaped Anything trees → AreTreesOf P trees → IsNumbered P
