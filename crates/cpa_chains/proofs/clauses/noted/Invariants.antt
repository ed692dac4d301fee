use Rattle.std.proofs.Common.{◌≡◌, take}
use Rattle.std.specs.Prelude.{filter}
use Rattle.cpa_chains.specs.Tables.{is_noted}
use Rattle.cpa_chains.proofs.clauses.noted.Given as goal

abbrev pub invariant-loop-literal : goal.invariant-loop-literal
invariant-loop-literal l =
    l.kept ≡ filter (is_noted l.table) (take l.literal-index l.literals)
