use Rattle.std.proofs.Common.{take}
use Rattle.std.specs.List.{All}
use Rattle.c_types_recursion.specs.Marks.{IsWithin}
use Rattle.c_types_recursion.proofs.reach.bodies_of.Given as goal

abbrev pub invariant-loop-call : goal.invariant-loop-call
invariant-loop-call l = All (IsWithin l.bodies) (take l.call-index l.calls)
