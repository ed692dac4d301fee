use Rattle.std.proofs.Common.{◌≡◌, ℕ, not, ◌&&◌, ◌||◌, take}
use Rattle.std.specs.Prelude.{◌==◌}
use Rattle.cpa_cnf.specs.Clauses.{has}
use Rattle.cpa_cnf.specs.Marking.{marked}
use Rattle.cpa_sat_search.specs.Analyses.{AreNoted, IsAsBefore}
use Rattle.cpa_sat_search.proofs.analysis.Analysis.mark_others.Given as goal

abbrev pub invariant-loop-literal : goal.invariant-loop-literal
invariant-loop-literal l =
    ((x : ℕ) → marked l.self.marks.items x
    ≡ (marked l.fn.self.marks.items x
    || (has (take l.literal-index l.clause) x && not (x == l.except))))
    × AreNoted l.self × IsAsBefore l.fn.self l.self
