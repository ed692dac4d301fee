-- The composite has the same components as before.
use Rattle.std.proofs.Common.{◌≡◌}
use Rattle.cpa_composite.specs.Composites.{components}
use Rattle.cases_turns.proofs.composites.asking.push_successors.Given as goal

abbrev pub invariant-loop-time : goal.invariant-loop-time
invariant-loop-time g l = components l.composite ≡ components l.initial.composite
