-- The entries so far have the place.
use Rattle.std.proofs.Common.{take}
use Rattle.std.specs.List.{AllByRecursion}
use Rattle.cpa_iface.specs.Meanings.{HasPlace}
use Rattle.cases_turns.proofs.analyses.asking.have_place.Given as goal

abbrev pub invariant-loop-entry : goal.invariant-loop-entry
invariant-loop-entry l = AllByRecursion (HasPlace l.cfa 0) (take l.entry-index l.entries)
