use Rattle.std.proofs.Common.{◌≡◌, ◌+◌, ◌≤◌, ◌++◌, length, map}
use Rattle.std.specs.Prelude.{vec_len, vec_capacity}
use Rattle.std.specs.Vec.Iter.{into_iter_items}
use Rattle.cpa_chains.specs.Rooms.{partial_in}
use Rattle.cpa_chains.proofs.parallel.gather.Given as goal

abbrev pub invariant-loop-room : goal.invariant-loop-room
invariant-loop-room l =
    (l.list.items ++ map partial_in (into_iter_items l.room-iterator)
    ≡ l.initial.list.items ++ map partial_in l.fn.rooms.items)
    × (vec_len l.list + length (into_iter_items l.room-iterator) ≤ vec_capacity l.list)
