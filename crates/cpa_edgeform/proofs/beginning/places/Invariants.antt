-- The places so far, with those that are left, are those of all cells.
use Rattle.std.proofs.Common.{◌≡◌, ◌++◌, drop}
use Rattle.cpa_form_rules.specs.Forms.{places_from}
use Rattle.cpa_edgeform.proofs.beginning.places.Given as goal

abbrev pub invariant-loop-i : goal.invariant-loop-i
invariant-loop-i l =
    l.places.items ++ places_from l.i (drop l.i l.cells) ≡ places_from 0 l.cells
