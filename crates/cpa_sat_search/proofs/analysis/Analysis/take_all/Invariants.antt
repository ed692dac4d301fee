use Rattle.std.proofs.Common.{◌≡◌, ℕ, not, ◌&&◌, take}
use Rattle.cpa_cnf.specs.Clauses.{has}
use Rattle.cpa_cnf.specs.Marking.{marked}
use Rattle.cpa_sat_search.specs.Analyses.{IsAsBefore}
use Rattle.cpa_sat_search.proofs.analysis.Analysis.take_all.Given as goal

abbrev pub invariant-loop-k : goal.invariant-loop-k
invariant-loop-k l =
    ((x : ℕ) → marked l.self.marks.items x
    ≡ (marked l.fn.self.marks.items x && not (has (take l.k l.fn.self.touched.items) x)))
    × ((x : ℕ) → has l.literals.items x
    ≡ (marked l.fn.self.marks.items x && has (take l.k l.fn.self.touched.items) x))
    × (l.self.touched.items ≡ l.fn.self.touched.items) × IsAsBefore l.fn.self l.self
