-- The first cells so far stand at their own places, and so do those that are told of what is left.
use Rattle.std.proofs.Common.{◌≡◌, ◌+◌, drop}
use Rattle.cpa_iface.specs.Cells.{consecutive_from, own_places}
use Rattle.cpa_iface.proofs.cells.own_places.Given as goal

abbrev pub invariant-loop-cell : goal.invariant-loop-cell
invariant-loop-cell l = record {
  place : l.own ≡ l.cell-index;
  rest : l.own + consecutive_from l.own (drop l.cell-index l.cells) ≡ own_places l.cells;
}
