use Rattle.std.proofs.Common.{◌≡◌, ◌+◌, ◌*◌, false, cond, length}
use Rattle.c_types_recursion.specs.Marks.{IsMarked, OnlyReached, IsClosed, unmarked}
use Rattle.c_types_recursion.proofs.reach.reached.Given as goal

abbrev pub invariant-loop-changed : goal.invariant-loop-changed
invariant-loop-changed l = record {
  start : IsMarked l.seen.items l.start;
  only : OnlyReached l.calls l.start l.seen.items;
  closed : l.changed ≡ false → IsClosed l.calls l.seen.items;
  len : length l.seen.items ≡ l.bodies;
}

abbrev pub decreases-loop-changed : goal.decreases-loop-changed
decreases-loop-changed l = 2 * unmarked l.seen.items + cond l.changed 1 0
