-- What is left of a list makes what the whole makes.
use Rattle.std.proofs.Common.{◌≡◌, ◌++◌, drop, map}
use Rattle.c_core_rules.specs.Cells.{each}
use Rattle.c_core_rules.specs.Statements.{function_rule}
use Rattle.c_lower_values.specs.Found.{so_far}
use Rattle.c_lower_trees.proofs.functions.function_trees.Given as goal

abbrev pub invariant-loop-function : goal.invariant-loop-function
invariant-loop-function l = record {
  taken : (each (map (function_rule l.frames) (drop l.function-index l.functions))
      (so_far l.cells)).taken
      ≡ (each (map (function_rule l.frames) l.functions) (so_far l.fn.cells)).taken;
  made : l.trees.items ++ (each (map (function_rule l.frames)
      (drop l.function-index l.functions)) (so_far l.cells)).made
      ≡ (each (map (function_rule l.frames) l.functions) (so_far l.fn.cells)).made;
}
