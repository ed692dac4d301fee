use Rattle.std.proofs.Common.{◌≡◌, false, take}
use Rattle.std.specs.List.{list_any}
use Rattle.cpa_cnf.specs.Models.{value_of_literal}
use Rattle.cpa_chains.proofs.values.any_true.Given as goal

abbrev pub invariant-loop-literal : goal.invariant-loop-literal
invariant-loop-literal l =
    list_any (value_of_literal l.values) (take l.literal-index l.literals) ≡ false
