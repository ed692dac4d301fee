-- Of the expressions so far those that read a cell.
use Rattle.std.proofs.Common.{◌≡◌, take}
use Rattle.std.specs.List.{filter}
use Rattle.cpa_folds.specs.Carried.{reads_some}
use Rattle.cpa_craig.proofs.reading.reading.Given as goal

abbrev pub invariant-loop-e : goal.invariant-loop-e
invariant-loop-e l = l.read.items ≡ filter reads_some (take l.e-index l.es)
