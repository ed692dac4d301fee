-- What is left of the functions makes what all of them make.
use Rattle.std.proofs.Common.{◌≡◌, ◌++◌, drop}
use Rattle.c_lower_values.specs.Found.{so_far}
use Rattle.c_lower_layout.specs.Rests.{rest_of}
use Rattle.c_lower_layout.proofs.Rests.{IsSoFar}
use Rattle.c_lower_layout.proofs.placing.first_cells.Given as goal

abbrev pub invariant-loop-function : goal.invariant-loop-function
invariant-loop-function l =
    let rest = drop l.function-index l.functions in
    record {
      so : IsSoFar l.frames l.functions rest (so_far l.fn.cells) (so_far l.cells) l.firsts.items
          l.size;
      made : l.trees.items ++ (rest_of l.frames rest (so_far l.cells)).made
          ≡ l.fn.trees.items ++ (rest_of l.frames l.functions (so_far l.fn.cells)).made;
    }
