-- The edges up to here are followed.
use Rattle.std.proofs.Common.{◌≡◌, ℕ, ◌+◌, ◌≤◌}
use Rattle.cpa_composite.specs.Composites.{components}
use Rattle.cpa_engine_turn.specs.Stages.{FollowsAll}
use Rattle.cpa_engine_turn.specs.Steps.{stage}
use Rattle.cpa_engine_turn.proofs.expanding.expand.Given as goal

abbrev pub invariant-loop-edge : goal.invariant-loop-edge
invariant-loop-edge g l = record {
  low : l.first ≤ l.edge;
  follows : (count : ℕ) → l.first + count ≡ l.edge
      → FollowsAll l.cfa (components l.initial.composite) l.elems l.precisions l.first count
      (stage l.initial.reached l.initial.work) (stage l.reached l.work);
  kept : components l.composite ≡ components l.initial.composite;
}
