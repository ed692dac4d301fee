-- What is behind the edges so far, and what was spent on them.
use Rattle.std.proofs.Common.{take}
use Rattle.cpa_craig.proofs.WalkLemmas.{Walked}
use Rattle.cpa_craig.proofs.walking.walk_from.Given as goal

abbrev pub invariant-loop-edge : goal.invariant-loop-edge
invariant-loop-edge l =
    Walked l.initial.craig l.craig l.cfa l.precision.preds l.edges (take l.edge-index l.edges)
    l.initial.elems.items l.elems.items
