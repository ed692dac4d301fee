-- All facts are shaped for the automaton exactly where those that are left are.
use Rattle.std.proofs.Common.{◌↔◌}
use Rattle.std.specs.List.{AllByRecursion}
use Rattle.cpa_model.specs.Facts.{IsFact}
use Rattle.cpa_model.proofs.facts.is_elem.Given as goal

abbrev pub invariant-loop-fact : goal.invariant-loop-fact
invariant-loop-fact l =
    AllByRecursion (IsFact l.cfa.cells l.cfa.points) l.fact-iterator
    ↔ AllByRecursion (IsFact l.cfa.cells l.cfa.points) l.elem.facts
