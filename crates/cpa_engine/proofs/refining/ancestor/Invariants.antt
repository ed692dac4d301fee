-- The entry above is there, so many edges lead back to it, and so many parents lead up to it.
use Rattle.std.proofs.Common.{ℕ, ◌≤◌, List, drop, length}
use Rattle.cpa_reached.specs.Entries.{IsLive}
use Rattle.cpa_reached.specs.Paths.{LeadsBack}
use Rattle.cpa_engine.specs.Rounds.{LeadsUp}
use Rattle.cpa_engine.proofs.refining.ancestor.Given as goal

abbrev pub invariant-loop-edge : goal.invariant-loop-edge
invariant-loop-edge l = record {
  live : IsLive l.reached.live l.at;
  back : (edges : List ℕ) → LeadsBack l.reached.live l.number edges → l._edge ≤ length edges
      → LeadsBack l.reached.live l.at (drop l._edge edges);
  up : (edges : List ℕ) → LeadsBack l.reached.live l.number edges → l._edge ≤ length edges
      → LeadsUp l.reached.live l.number l._edge l.at;
}
