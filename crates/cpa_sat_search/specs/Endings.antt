-- What a search finds (this project's own): a model, a refutation, or as many lines
-- as it may write.
use Rattle.std.specs.Prelude.{◌≡◌, ◌≢◌, ℕ, ◌≤◌, List, [], length}
use Rattle.std.specs.List.{AllByRecursion}
use Rattle.cpa_cnf.specs.declared.formula.Cnf.{Cnf}
use Rattle.cpa_cnf.specs.declared.formula.Line.{Line}
use Rattle.cpa_cnf.specs.Lines.{AreGood, IsRefutation, known}
use Rattle.cpa_cnf.specs.Models.{IsModel}
use Rattle.cpa_sat_search.specs.declared.found.Found.{Found}
use Rattle.cpa_sat_search.specs.declared.found.Found.TheVariants.{Model, Refuted, Spent}
use Rattle.cpa_sat_search.specs.Fresh.{AreNew}
use Rattle.cpa_sat_trail.specs.Trails.{AreClauses}

-- exactly as many lines as are allowed, good, not empty and of new clauses; all clauses are sorted
-- and over the formula's variables
pub record AreWritten (cnf : Cnf) (learnt : ℕ) (log : List Line) : Type 0 where
  pub all : length log ≡ learnt
  pub good : AreGood cnf log
  pub filled : AllByRecursion (λ (line : Line). line.clause ≢ []) log
  pub fresh : AreNew cnf log
  pub clauses_are : AreClauses cnf.vars (known cnf log)

abbrev pub IsEnding : Cnf → ℕ → Found → Type 0
IsEnding cnf learnt (Model values) = IsModel cnf values.items
IsEnding cnf learnt (Refuted lines) = IsRefutation cnf lines.items
    × (length lines.items ≤ learnt)
IsEnding cnf learnt (Spent lines) = AreWritten cnf learnt lines.items
