-- The marked cells are those that are needed along the edges from this place on.
use Rattle.std.proofs.Common.{◌≡◌, ℕ, ◌≤◌, Bool, List, drop}
use Rattle.std.specs.Prelude.{length}
use Rattle.cpa_folds.specs.Needed.{is_needed}
use Rattle.cpa_query.specs.Queries.{is_marked}
use Rattle.cpa_model.specs.declared.automaton.Cfa.{Cfa}
use Rattle.cpa_folds.proofs.needed_cells.mark_needed.Given as goal

pub record Marks (cfa : Cfa) (edges : List ℕ) (place : ℕ) (first marks : List Bool) : Type 0 where
  pub long : length marks ≡ length first
  pub within : place ≤ length edges
  pub needed : (cell : ℕ) → is_marked marks cell ≡ is_needed cfa (drop place edges) cell

abbrev pub invariant-loop-place : goal.invariant-loop-place
invariant-loop-place l = Marks l.cfa l.edges l.place l.fn.marks l.marks

abbrev pub decreases-loop-place : goal.decreases-loop-place
decreases-loop-place l = l.place
