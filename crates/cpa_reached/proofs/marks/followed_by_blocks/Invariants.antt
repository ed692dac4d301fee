-- Where all facts hold, the mark counts so far.
use Rattle.std.proofs.Common.{◌≡◌}
use Rattle.std.specs.List.{AllByRecursion}
use Rattle.cpa_model.specs.declared.states.State.{State}
use Rattle.cpa_model.specs.Facts.{FactHolds}
use Rattle.cpa_facts.specs.Blocks.{joined}
use Rattle.cpa_reached.specs.Marks.{Counts}
use Rattle.cpa_reached.proofs.marks.followed_by_blocks.Given as goal

abbrev pub invariant-loop-block : goal.invariant-loop-block
invariant-loop-block l = record {
  place : l.told.place ≡ l.fn.mark.place;
  counts : (s : State) → AllByRecursion (FactHolds s) (joined l.blocks) → Counts s l.fn.mark
      → Counts s l.told;
}
