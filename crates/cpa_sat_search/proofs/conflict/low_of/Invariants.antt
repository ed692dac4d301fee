use Rattle.std.proofs.Common.{◌≡◌, ◌≢◌, ◌<◌, ◌≤◌, ℕ, true, take}
use Rattle.cpa_cnf.specs.Clauses.{has}
use Rattle.cpa_cnf.specs.Literals.{opposite}
use Rattle.cpa_cnf.specs.Marking.{marked}
use Rattle.cpa_sat_trail.specs.Trails.{place_of}
use Rattle.cpa_sat_search.specs.Analyses.{AreOthersBefore}
use Rattle.cpa_sat_search.proofs.conflict.low_of.Given as goal

abbrev pub invariant-loop-literal : goal.invariant-loop-literal
invariant-loop-literal l =
    ((x : ℕ) → has (take l.literal-index l.literal-items) x ≡ true
    → marked l.analysis.marks.items x ≡ true → x ≢ l.kept
    → place_of l.trail (opposite x) < l.low)
    × ((n : ℕ) → AreOthersBefore l.analysis l.trail l.kept n → l.low ≤ n)
