-- With what is left the sum so far makes the path's weight.
use Rattle.std.proofs.Common.{◌≡◌, ℕ, ◌+◌, ◌-◌, ◌^◌, ◌≤◌, min, List, drop}
use Rattle.std.specs.List.{sum_by}
use Rattle.cpa_form_rules.specs.Forms.{act_weight}
use Rattle.cpa_model.specs.declared.automaton.Cfa.{Cfa}
use Rattle.cpa_folds.specs.Along.{acts_along}
use Rattle.cpa_path.specs.Paths.{path_weight}
use Rattle.cpa_path.proofs.weighing.weight_along.Given as goal

pub record IsSoFar (cfa : Cfa) (path rest : List ℕ) (total : ℕ) : Type 0 where
  pub whole : min (total + sum_by act_weight (acts_along cfa rest)) (2 ^ 64 - 1) ≡ path_weight
      cfa path
  pub within : total ≤ 2 ^ 64 - 1

abbrev pub invariant-loop-number : goal.invariant-loop-number
invariant-loop-number l = IsSoFar l.cfa l.path (drop l.number-index l.path) l.total
