use Rattle.std.proofs.Common.{◌≡◌, ◌++◌, drop}
use Rattle.cpa_blast.specs.Formulas.{places_of}
use Rattle.cpa_blast.proofs.places.places_of.Given as goal

abbrev pub invariant-loop-i : goal.invariant-loop-i
invariant-loop-i l =
    l.places.items ++ places_of (drop l.i l.cells) (drop l.i l.marks) ≡ places_of l.cells l.marks
