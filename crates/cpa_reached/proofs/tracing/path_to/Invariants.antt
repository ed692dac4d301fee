use Rattle.cpa_reached.proofs.Climbing.{Traces}
use Rattle.cpa_reached.proofs.tracing.path_to.Given as goal

abbrev pub invariant-up : goal.invariant-up
invariant-up l = Traces l.entries l.links l.entry l.at l.edges.items l._above l.depth
