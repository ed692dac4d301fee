use Rattle.std.proofs.Common.{◌≡◌, take}
use Rattle.cpa_composite.proofs.choosing.copy_row.Given as goal

abbrev pub invariant-loop-elem : goal.invariant-loop-elem
invariant-loop-elem l = l.list.items ≡ take l.elem-index l.row
