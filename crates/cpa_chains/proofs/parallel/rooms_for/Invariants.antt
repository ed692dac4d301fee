use Rattle.std.proofs.Common.{take}
use Rattle.std.specs.List.{AllZip}
use Rattle.cpa_chains.specs.Rooms.{IsRoomFor}
use Rattle.cpa_chains.proofs.parallel.rooms_for.Given as goal

abbrev pub invariant-loop-line : goal.invariant-loop-line
invariant-loop-line l = AllZip IsRoomFor (take l.line-index l.log) l.rooms.items
