-- The act leaves all predicates where it leaves those that are left.
use Rattle.std.proofs.Common.{drop}
use Rattle.std.specs.List.{AllByRecursion}
use Rattle.cpa_predicate.specs.Resting.{Leaves}
use Rattle.cpa_predicate.proofs.resting.leaves_all.Given as goal

abbrev pub invariant-loop-p : goal.invariant-loop-p
invariant-loop-p l =
    AllByRecursion (Leaves l.act) (drop l.p-index l.preds)
    → AllByRecursion (Leaves l.act) l.preds
