-- The number of the variables from the place on.
use Rattle.std.proofs.Common.{◌≡◌, ◌-◌, ◌<◌, ◌≤◌, ◌^◌}
use Rattle.cpa_blast_gates.specs.Clauses.{assigned}
use Rattle.cpa_solver.proofs.Numbers.{number_from}
use Rattle.cpa_solver.proofs.stores.number_at.Given as goal

abbrev pub invariant-loop-place : goal.invariant-loop-place
invariant-loop-place l =
    record {
      within : l.place ≤ l.width;
      number : l.number ≡ number_from (assigned l.truths) l.first l.width l.place;
      below : l.number < 2 ^ (l.width - l.place);
    }

abbrev pub decreases-loop-place : goal.decreases-loop-place
decreases-loop-place l = l.place
