-- The elements so far are shaped.
use Rattle.std.proofs.Common.{take}
use Rattle.std.specs.List.{AllByRecursion}
use Rattle.cpa_iface.specs.Meanings.{IsShaped}
use Rattle.cases_programs.proofs.shapes.are_elems.Given as goal

abbrev pub invariant-loop-elem : goal.invariant-loop-elem
invariant-loop-elem l = AllByRecursion (IsShaped l.cfa) (take l.elem-index l.elems)
