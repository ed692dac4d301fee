use Rattle.std.proofs.Common.{◌*◌, ◌+◌, length}
use Rattle.cpa_sat_arena.specs.Extents.{hash_at}
use Rattle.cpa_sat_arena.specs.Hashes.{IsIndexed}
use Rattle.cpa_sat_arena.proofs.store.indexed.Given as goal

abbrev pub invariant-loop-number : goal.invariant-loop-number
invariant-loop-number l =
    IsIndexed (hash_at l.extents) l.number (length l.extents * 2 + 64) l.index.heads.items
    l.index.nexts.items
