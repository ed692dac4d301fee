-- What a search finds (this project's own): a model, a refutation, or as many lines as it may
-- write.
use Rattle.std.specs.Prelude.{◌≡◌, ◌≢◌, ℕ, ◌<◌, ◌≤◌, ◌^◌, List, [], length}
use Rattle.std.specs.List.{AllByRecursion}
use Rattle.cpa_cnf.specs.declared.formula.Cnf.{Cnf}
use Rattle.cpa_cnf.specs.declared.formula.Line.{Line}
use Rattle.cpa_cnf.specs.Lines.{AreGood, IsRefutation}
use Rattle.cpa_cnf.specs.Models.{IsModel}
use Rattle.cpa_sat_search.specs.declared.found.Found.{Found}
use Rattle.cpa_sat_search.specs.declared.found.Found.TheVariants.{Model, Refuted, Spent}
use Rattle.cpa_sat_search.specs.Fresh.{AreNew}

-- exactly as many lines as are allowed, good, not empty and of new clauses, and fewer than there
-- are clauses
pub record IsSpent (cnf : Cnf) (learnt : ℕ) (log : List Line) : Type 0 where
  pub all : length log ≡ learnt
  pub good : AreGood cnf log
  pub filled : AllByRecursion (λ (line : Line). line.clause ≢ []) log
  pub fresh : AreNew cnf log
  pub few : learnt < 4 ^ cnf.vars

-- a refutation of at most so many lines
pub record IsRefutedWithin (cnf : Cnf) (learnt : ℕ) (log : List Line) : Type 0 where
  pub refutes : IsRefutation cnf log
  pub some : 1 ≤ length log
  pub within : length log ≤ learnt

abbrev pub IsFound : Cnf → ℕ → Found → Type 0
IsFound cnf learnt (Model values) = IsModel cnf values.items
IsFound cnf learnt (Refuted lines) = IsRefutedWithin cnf learnt lines.items
IsFound cnf learnt (Spent lines) = IsSpent cnf learnt lines.items
