-- The facts from this place on are put in place.
use Rattle.std.proofs.Common.{◌≡◌, ℕ, ◌≤◌, List, drop}
use Rattle.std.specs.Prelude.{length}
use Rattle.cpa_facts.specs.declared.fact.Fact.{Fact}
use Rattle.cpa_interval_bounds.specs.Tables.{Bounded}
use Rattle.cpa_interval.specs.Cells.{with_facts}
use Rattle.cpa_interval.proofs.cells.put_facts.Given as goal

pub record Puts (facts : List Fact) (place : ℕ) (first all : Bounded) : Type 0 where
  pub within : place ≤ length facts
  pub cells : all.cells ≡ first.cells
  pub puts : all.each ≡ with_facts (drop place facts) first.each

abbrev pub invariant-loop-place : goal.invariant-loop-place
invariant-loop-place l = Puts l.facts l.place l.fn.all l.all

abbrev pub decreases-loop-place : goal.decreases-loop-place
decreases-loop-place l = l.place
