-- Good lines and refutations (this project's own): each line is a chain of resolutions from a
-- clause.
use Rattle.std.specs.Prelude.{◌≡◌, ℕ, ◌<◌, ◌-◌, ◌*◌, List, [], ◌∷◌, ◌++◌, length, map, take}
use Rattle.std.specs.Prelude.{slice_get, slice_index_or, Some}
use Rattle.std.specs.List.{AllByRecursion}
use Rattle.cpa_cnf.specs.declared.formula.Cnf.{Cnf}
use Rattle.cpa_cnf.specs.declared.formula.Step.{Step}
use Rattle.cpa_cnf.specs.declared.formula.Line.{Line}
use Rattle.cpa_cnf.specs.Resolution.{IsResolvent}

-- each literal is one of a variable below `vars`
abbrev pub AreBelow : ℕ → List ℕ → Type 0
AreBelow vars literals = AllByRecursion (λ l. l < 2 * vars) literals

-- The clauses that numbers name once these lines stand: the formula's, and behind them the lines'.
abbrev pub known : Cnf → List Line → List (List ℕ)
known cnf log = cnf.clauses ++ map (λ line. line.clause) log

-- The chain of resolutions that begins with the clause a and takes these steps ends with the clause
-- c.
abbrev pub Gives : List (List ℕ) → List ℕ → List Step → List ℕ → Type 0
Gives clauses a [] c = a ≡ c
Gives clauses a (step ∷ steps) c =
    (r : List ℕ) × IsResolvent a (slice_index_or clauses step.clause []) step.pivot r
    × Gives clauses r steps c

-- The line's numbers name clauses, and its variables are below `vars`.
pub record IsInRange (vars : ℕ) (clauses : List (List ℕ)) (line : Line) : Type 0 where
  pub first : line.first < length clauses
  pub numbers : AllByRecursion (λ step. step.clause < length clauses) line.steps
  pub pivots : AllByRecursion (λ step. step.pivot < vars) line.steps
  pub variables : AreBelow vars line.clause

-- Numbers and variables are in range, and the chain gives the line's clause.
pub record IsGoodLine (vars : ℕ) (clauses : List (List ℕ)) (line : Line) : Type 0 where
  pub range : IsInRange vars clauses line
  pub chain : Gives clauses (slice_index_or clauses line.first []) line.steps line.clause

-- line i is good over the formula and the lines before it
abbrev pub IsGoodAt : Cnf → List Line → ℕ → Type 0
IsGoodAt cnf log i = (line : Line) → slice_get log i ≡ Some line
    → IsGoodLine cnf.vars (known cnf (take i log)) line

abbrev pub AreGood : Cnf → List Line → Type 0
AreGood cnf log = (i : ℕ) → IsGoodAt cnf log i

-- good lines of which the last has the empty clause
pub record IsRefutation (cnf : Cnf) (log : List Line) : Type 0 where
  pub good : AreGood cnf log
  pub last : slice_get (map (λ line. line.clause) log) (length log - 1) ≡ Some []
