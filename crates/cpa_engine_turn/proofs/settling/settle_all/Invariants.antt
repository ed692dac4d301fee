-- The successors so far are settled.
use Rattle.std.proofs.Common.{◌≡◌, map, take}
use Rattle.cpa_composite.specs.Composites.{components}
use Rattle.cpa_engine_turn.specs.Stages.{SettlesAll}
use Rattle.cpa_engine_turn.specs.Steps.{stage}
use Rattle.cpa_engine_turn.proofs.settling.settle_all.Given as goal

abbrev pub invariant-loop-successor : goal.invariant-loop-successor
invariant-loop-successor g l = record {
  settles : SettlesAll l.cfa (components l.initial.composite) l.precisions l.edge
      (take l.successor-index (map (λ row. row.items) l.successors))
      (stage l.initial.reached l.initial.work) (stage l.reached l.work);
  kept : components l.composite ≡ components l.initial.composite;
}
