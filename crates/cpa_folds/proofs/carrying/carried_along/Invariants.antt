-- What is there is carried along the edges from this place on.
use Rattle.std.proofs.Common.{◌≡◌, ℕ, ◌≤◌, List, drop}
use Rattle.std.specs.Prelude.{length}
use Rattle.cpa_model.specs.declared.automaton.Cfa.{Cfa}
use Rattle.cpa_folds.specs.declared.carrying.CarriedLists.{CarriedLists}
use Rattle.cpa_folds.specs.Along.{acts_along}
use Rattle.cpa_folds.specs.Carried.{carried_along}
use Rattle.cpa_folds.proofs.carrying.carried_along.Given as goal

pub record IsSoFar (cfa : Cfa) (edges : List ℕ) (place : ℕ) (now : CarriedLists) : Type 0 where
  pub within : place ≤ length edges
  pub are : now ≡ carried_along (acts_along cfa (drop place edges))

abbrev pub invariant-loop-place : goal.invariant-loop-place
invariant-loop-place l = IsSoFar l.cfa l.edges l.place l.lists

abbrev pub decreases-loop-place : goal.decreases-loop-place
decreases-loop-place l = l.place
