-- What is behind the edge of the elements so far, and what was spent on them.
use Rattle.std.proofs.Common.{take}
use Rattle.cpa_craig.proofs.WalkLemmas.{Stepped}
use Rattle.cpa_craig.proofs.walking.step.Given as goal

abbrev pub invariant-loop-elem : goal.invariant-loop-elem
invariant-loop-elem l =
    Stepped l.initial.craig l.craig l.cfa l.precision.preds l.edge (take l.elem-index l.elems)
    l.all.items
