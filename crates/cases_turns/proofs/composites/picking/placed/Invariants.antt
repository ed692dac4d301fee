-- The picks so far have their places.
use Rattle.cpa_composite.specs.Components.{ArePlaces}
use Rattle.cases_turns.proofs.composites.picking.placed.Given as goal

abbrev pub invariant-loop-pick : goal.invariant-loop-pick
invariant-loop-pick l = ArePlaces 8 l.placed.items
