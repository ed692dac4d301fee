-- Those under the key that are behind, and do not stand apart, are left.
use Rattle.std.proofs.Common.{drop}
use Rattle.cpa_composite.specs.Composites.{components}
use Rattle.cpa_engine_turn.proofs.Looking.{CoversSo}
use Rattle.cpa_engine_turn.proofs.settling.covering.Given as goal

abbrev pub invariant-loop-number : goal.invariant-loop-number
invariant-loop-number g l = record {
  so : CoversSo (components l.composite) l.elems l._key.elems l.reached
      (drop l.number-index l.left);
}
