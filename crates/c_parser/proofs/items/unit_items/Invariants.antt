-- The items are read up to here. The rest of the text gets shorter.
use Rattle.std.proofs.Common.{◌-◌, length}
use Rattle.c_parser.proofs.SeenItems.{AreItems}
use Rattle.c_parser.proofs.items.unit_items.Given as goal

abbrev pub invariant-list : goal.invariant-list
invariant-list l = AreItems l.fn.source l.source l.left l.at l.items l.here

abbrev pub decreases-list : goal.decreases-list
decreases-list l = length l.fn.source - l.here
