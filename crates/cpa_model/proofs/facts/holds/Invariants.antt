-- All facts hold exactly where those that are left do.
use Rattle.std.proofs.Common.{◌↔◌}
use Rattle.std.specs.List.{AllByRecursion}
use Rattle.cpa_model.specs.Facts.{FactHolds}
use Rattle.cpa_model.proofs.facts.holds.Given as goal

abbrev pub invariant-loop-fact : goal.invariant-loop-fact
invariant-loop-fact l = AllByRecursion (FactHolds l.state) l.fact-iterator
    ↔ AllByRecursion (FactHolds l.state) l.elem.facts
