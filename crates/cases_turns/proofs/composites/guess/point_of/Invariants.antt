-- In a state of the element what is left holds, too.
use Rattle.std.specs.List.{AllByRecursion}
use Rattle.cpa_model.specs.declared.states.State.{State}
use Rattle.cpa_model.specs.Facts.{FactHolds, Holds}
use Rattle.cases_turns.proofs.composites.guess.point_of.Given as goal

abbrev pub invariant-loop-fact : goal.invariant-loop-fact
invariant-loop-fact l =
    (s : State) → Holds l.elem s → AllByRecursion (FactHolds s) l.fact-iterator
