-- With what is left it becomes what it does with all.
use Rattle.std.proofs.Common.{◌≡◌, drop}
use Rattle.cpa_folds.specs.Carried.{with_replaced}
use Rattle.cpa_folds.proofs.carrying.add_replaced.Given as goal

abbrev pub invariant-loop-e : goal.invariant-loop-e
invariant-loop-e l =
    with_replaced l.cell l.value (drop l.e-index l.es) l.lists
    ≡ with_replaced l.cell l.value l.es l.initial.lists
