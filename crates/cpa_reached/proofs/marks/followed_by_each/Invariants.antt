-- Where all facts hold, the mark counts so far.
use Rattle.std.proofs.Common.{◌≡◌}
use Rattle.std.specs.List.{AllByRecursion}
use Rattle.cpa_model.specs.declared.states.State.{State}
use Rattle.cpa_model.specs.Facts.{FactHolds}
use Rattle.cpa_reached.specs.Marks.{Counts}
use Rattle.cpa_reached.proofs.marks.followed_by_each.Given as goal

abbrev pub invariant-loop-fact : goal.invariant-loop-fact
invariant-loop-fact l = record {
  place : l.told.place ≡ l.fn.mark.place;
  counts : (s : State) → AllByRecursion (FactHolds s) l.facts → Counts s l.fn.mark → Counts s
      l.told;
}
