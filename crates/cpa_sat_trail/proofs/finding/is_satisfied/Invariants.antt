use Rattle.std.proofs.Common.{◌≡◌, ℕ, true, take}
use Rattle.cpa_cnf.specs.Clauses.{has}
use Rattle.cpa_sat_trail.specs.declared.trail.TheConstants.{NO_PLACE}
use Rattle.cpa_sat_trail.specs.Trails.{place_of}
use Rattle.cpa_sat_trail.proofs.finding.is_satisfied.Given as goal

abbrev pub invariant-loop-literal : goal.invariant-loop-literal
invariant-loop-literal l = (x : ℕ) → has (take l.literal-index l.clause) x ≡ true
    → place_of l.trail x ≡ NO_PLACE
