-- What an answer to a query holds (this project's own): a model, a refutation of the query's
-- formula, or as many lines as were allowed.
use Rattle.std.specs.Prelude.{ℕ, ℤ, List}
use Rattle.cpa_query.specs.declared.query.Query.{Query}
use Rattle.cpa_query.specs.Queries.{IsModel}
use Rattle.cpa_sat.specs.Outcomes.{IsRefutedWithin, IsSpent}
use Rattle.cpa_blast.specs.Formulas.{formula}
use Rattle.cpa_solver.specs.declared.decisions.Decided.{Decided}
use Rattle.cpa_solver.specs.declared.decisions.Decided.TheVariants.{Model, NoModel, Learnt}

-- no store is a model of the query
abbrev pub HasNoModel : Query → Type 0
HasNoModel q = (values : List ℤ) → IsModel q values → ⊥

abbrev pub IsDecided : Query → ℕ → Decided → Type 0
IsDecided q learnt (Model store) = IsModel q store.values
IsDecided q learnt (NoModel lines) =
    IsRefutedWithin (formula q) learnt lines.items × HasNoModel q
IsDecided q learnt (Learnt lines) = IsSpent (formula q) learnt lines.items
