use Rattle.std.proofs.Common.{◌≡◌, map, take}
use Rattle.cpa_chains.specs.Tables.{partial_by}
use Rattle.cpa_chains.proofs.folding.all_partials.Given as goal

abbrev pub invariant-loop-line : goal.invariant-loop-line
invariant-loop-line l = l.list.items ≡ map (partial_by l.table) (take l.line-index l.log)
