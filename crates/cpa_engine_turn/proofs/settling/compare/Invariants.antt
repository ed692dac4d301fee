-- Some numbers under the key are compared, the next one that is left stands where it did, and as
-- long as none gave way the entries are those of the beginning.
use Rattle.std.proofs.Common.{◌≡◌, false, drop}
use Rattle.cpa_composite.specs.Composites.{components}
use Rattle.cpa_engine_turn.proofs.Looking.{ComparesSo}
use Rattle.cpa_engine_turn.proofs.settling.compare.Given as goal

abbrev pub invariant-loop-number : goal.invariant-loop-number
invariant-loop-number g l = record {
  so : ComparesSo l.cfa (components l.initial.composite) l.successor l.precisions l._key.elems
      l.initial.reached l.reached l.initial.work l.work (drop l.number-index l.left);
  same : l.is_changed ≡ false → l.reached ≡ l.initial.reached;
  kept : components l.composite ≡ components l.initial.composite;
}
