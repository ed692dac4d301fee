-- What is known of the predicates so far, and what was spent on them.
use Rattle.std.proofs.Common.{take}
use Rattle.cpa_predicate.specs.Questions.{IsOpen, Spends, SomeBeyond}
use Rattle.cpa_predicate.specs.Transfer.{AreTruths}
use Rattle.cpa_predicate.proofs.transfer.truths_after.Given as goal

abbrev pub invariant-loop-p : goal.invariant-loop-p
invariant-loop-p l =
    AreTruths (IsOpen l.initial.asker l.asker l.cfa l.elem l.edge) l.cfa l.elem l.edge
    (take l.p-index l.preds) l.truths
    × Spends l.initial.asker l.asker
    (SomeBeyond l.initial.asker l.cfa l.elem l.edge l.preds)
