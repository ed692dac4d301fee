use Rattle.std.proofs.Common.{ℕ, List, take}
use Rattle.cpa_iface.specs.declared.entries.Entry.{Entry}
use Rattle.cpa_reached.specs.Indexes.{AreKeysOf, IsIndex}
use Rattle.cpa_reached.specs.Removal.{without}
use Rattle.cpa_reached.proofs.pruning.leave_all.Given as goal

abbrev pub invariant-loop-place : goal.invariant-loop-place
invariant-loop-place l =
    (places : List ℕ) (xs : List Entry) → IsIndex places xs l.initial.index.entries
    → AreKeysOf places xs l.gone l.keys
    → IsIndex places (without (take l.place l.gone) xs) l.index.entries
