use Rattle.std.proofs.Common.{}
use Rattle.cfa_build.specs.Places.{ArePlacesBelow}
use Rattle.cfa_build.proofs.places.places.Given as goal

abbrev pub invariant-loop-n : goal.invariant-loop-n
invariant-loop-n l = ArePlacesBelow l.program l.n l.places.items
