-- The entries keep their shape and their places, and the components are the same.
use Rattle.std.proofs.Common.{length}
use Rattle.cpa_composite.specs.Composites.{components}
use Rattle.cpa_engine_turn.specs.Keys.{HasPlaces}
use Rattle.cpa_engine_turn.specs.Turns.{AreEntries}
use Rattle.cases_turns.proofs.composites.exploring.turns.Given as goal

abbrev pub invariant-loop-turn : goal.invariant-loop-turn
invariant-loop-turn g l = record {
  entries : AreEntries l.cfa (length (components l.composite)) l.reached.live;
  places : HasPlaces (components l.composite) l.reached;
}
