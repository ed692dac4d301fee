use Rattle.c_types_recursion.specs.Marks.{Keeps, Grows}
use Rattle.c_types_recursion.proofs.reach.follow.Given as goal

abbrev pub invariant-loop : goal.invariant-loop
invariant-loop l = record { kept : Keeps l.fn.seen l.seen; grown : Grows l.calls l.fn.seen l.seen }
