use Rattle.std.proofs.Common.{◌≡◌, ◌++◌, drop}
use Rattle.cpa_reached_key.specs.Rows.{picked}
use Rattle.cpa_reached_key.proofs.picking.key_of.Given as goal

abbrev pub invariant-loop-place : goal.invariant-loop-place
invariant-loop-place l =
    l.elems ++ picked (drop l.place-index l.places) l.row ≡ picked l.places l.row
