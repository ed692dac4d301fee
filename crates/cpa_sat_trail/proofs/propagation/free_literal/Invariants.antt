use Rattle.std.proofs.Common.{◌≡◌, ◌≢◌, ℕ, true, take}
use Rattle.cpa_cnf.specs.Literals.{opposite}
use Rattle.cpa_cnf.specs.Clauses.{has}
use Rattle.cpa_sat_trail.specs.declared.trail.TheConstants.{NO_PLACE}
use Rattle.cpa_sat_trail.specs.Trails.{place_of}
use Rattle.cpa_sat_trail.proofs.propagation.free_literal.Given as goal

abbrev pub invariant-loop-literal : goal.invariant-loop-literal
invariant-loop-literal l =
    (x : ℕ) → has (take l.literal-index l.clause) x ≡ true → x ≢ l.other
    → place_of l.trail (opposite x) ≢ NO_PLACE
