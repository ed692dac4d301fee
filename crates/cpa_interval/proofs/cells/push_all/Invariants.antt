-- The facts of the cells from this place on are there.
use Rattle.std.specs.Prelude.{true}
use Rattle.cpa_interval.proofs.KnownLemmas.{Says}
use Rattle.cpa_interval.proofs.cells.push_all.Given as goal

abbrev pub invariant-loop-place : goal.invariant-loop-place
invariant-loop-place l = Says (λ _. true) l.cells l.known l.place l.fn.facts l.facts

abbrev pub decreases-loop-place : goal.decreases-loop-place
decreases-loop-place l = l.place
