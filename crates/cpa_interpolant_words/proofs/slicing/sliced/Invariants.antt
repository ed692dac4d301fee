-- What is kept is of the path.
use Rattle.std.proofs.Common.{◌<◌, length}
use Rattle.std.specs.List.{AllByRecursion}
use Rattle.cpa_interpolant_words.proofs.slicing.sliced.Given as goal

abbrev pub invariant-loop-i : goal.invariant-loop-i
invariant-loop-i l = AllByRecursion (λ edge. edge < length l.cfa.edges) l.kept.items
