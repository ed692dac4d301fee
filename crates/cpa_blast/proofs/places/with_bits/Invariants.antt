use Rattle.std.proofs.Common.{◌≡◌, drop}
use Rattle.cpa_blast.specs.Formulas.{with_bits}
use Rattle.cpa_blast.proofs.Turns.{behind}
use Rattle.cpa_blast.proofs.places.with_bits.Given as goal

abbrev pub invariant-loop-i : goal.invariant-loop-i
invariant-loop-i l =
    behind l.made.items (with_bits l.reading (drop l.i l.places) l.net)
    ≡ with_bits l.reading l.places l.initial.net
