use Rattle.std.proofs.Common.{◌≡◌}
use Rattle.cpa_reached.proofs.sharing.share_each.Given as goal

abbrev pub invariant-loop-at : goal.invariant-loop-at
invariant-loop-at l = l.elems.items ≡ l.initial.elems.items
