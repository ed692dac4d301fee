-- The least bad line of a log, and of a run of its lines (this project's own).
use Rattle.std.specs.Prelude.{◌<◌, ◌≤◌, ◌+◌, ℕ, List, Option, None, Some, length}
use Rattle.cpa_cnf.specs.declared.formula.Cnf.{Cnf}
use Rattle.cpa_cnf.specs.declared.formula.Line.{Line}
use Rattle.cpa_cnf.specs.Lines.{IsGoodAt, AreGood}
use Rattle.cpa_audit.specs.Cuts.{cut}

-- line i stands in the log and is not good
pub record IsBadAt (cnf : Cnf) (log : List Line) (i : ℕ) : Type 0 where
  pub inside : i < length log
  pub bad : IsGoodAt cnf log i → ⊥

-- each line from this number on, and before that one, is good
abbrev pub AreGoodBetween : Cnf → List Line → ℕ → ℕ → Type 0
AreGoodBetween cnf log from end = (i : ℕ) → from ≤ i → i < end → IsGoodAt cnf log i

-- The least line that is not good, or none where each is good.
abbrev pub IsLeastBad : Cnf → List Line → Option ℕ → Type 0
IsLeastBad cnf log None = AreGood cnf log
IsLeastBad cnf log (Some i) = IsBadAt cnf log i × ((k : ℕ) → k < i → IsGoodAt cnf log k)

-- the least bad line of the run between these numbers, or none
abbrev pub IsLeastBadBetween : Cnf → List Line → ℕ → ℕ → Option ℕ → Type 0
IsLeastBadBetween cnf log from end None = AreGoodBetween cnf log from end
IsLeastBadBetween cnf log from end (Some i) =
    IsBadAt cnf log i × (from ≤ i) × (i < end) × AreGoodBetween cnf log from i

-- the least bad line of the runs of so many parts, from this one on
abbrev pub IsLeastBadOfParts : Cnf → List Line → ℕ → ℕ → ℕ → Option ℕ → Type 0
IsLeastBadOfParts cnf log workers first count =
    IsLeastBadBetween cnf log (cut (length log) workers first)
    (cut (length log) workers (first + count))

-- the answer of neighbours: that of the first, or else that of the second
abbrev pub joined : Option ℕ → Option ℕ → Option ℕ
joined None second = second
joined (Some i) second = Some i
