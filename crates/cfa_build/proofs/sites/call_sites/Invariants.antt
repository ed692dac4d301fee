use Rattle.cfa_build.specs.Edges.{AreSitesBelow}
use Rattle.cfa_build.proofs.sites.call_sites.Given as goal

abbrev pub invariant-loop-n : goal.invariant-loop-n
invariant-loop-n l = AreSitesBelow l.program l.n l.sites.items
