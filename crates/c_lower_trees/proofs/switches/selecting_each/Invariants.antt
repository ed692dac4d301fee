-- What is left of the cases makes what all of them make.
use Rattle.std.proofs.Common.{◌≡◌, ◌++◌, drop, map}
use Rattle.c_core_rules.specs.Statements.{selecting}
use Rattle.c_lower_trees.proofs.switches.selecting_each.Given as goal

abbrev pub invariant-loop-one : goal.invariant-loop-one
invariant-loop-one l =
    l.trees ++ map (selecting l.origin l.v) (drop l.one-index l.choices) ≡ map
    (selecting l.origin l.v) l.choices
