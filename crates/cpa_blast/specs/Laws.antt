-- The law of formulas: the models of a query's formula are those of the query. Below the statement,
-- its lemma.
use Rattle.std.specs.Prelude.{◌≡◌, ℕ, ◌+◌, ◌<◌, ◌≤◌, ◌^◌, ℤ, Bool, true, List, length, slice_get}
use Rattle.std.specs.Prelude.{Some}
use Rattle.cpa_ints.specs.declared.integers.IntType.{IntType}
use Rattle.cpa_ints.specs.Integers.{width}
use Rattle.cpa_cnf.specs.Models.{IsModel as IsTruth}
use Rattle.cpa_query.specs.declared.query.Query.{Query}
use Rattle.cpa_query.specs.Queries.{IsQuery, IsModel, wanted_reads}
use Rattle.cpa_blast_circuits.specs.Laws.{CircuitsHaveValues}
use Rattle.cpa_blast.specs.Formulas.{formula, first_bits, store_at}
use Rattle.cpa_blast.specs.lemmas.Models.{names, sound, complete, unread, formula_below}
use Rattle.cpa_blast.specs.lemmas.Models.{cells_below}
use Rattle.std.specs.List.{AllByRecursion, AllZip}
use Rattle.cpa_cnf.specs.Lines.{AreBelow}

-- a query over so many cells as a list in memory may have
pub record IsBlastable (q : Query) : Type 0 where
  pub asked : IsQuery q
  pub few : length q.cells < 2 ^ 64

-- values of the formula's variables that are a model of it and give this store
pub record IsExtended (q : Query) (store : List ℤ) (truths : List Bool) : Type 0 where
  pub model : IsTruth (formula q) truths
  pub gives : store_at q.cells (first_bits q) truths ≡ store

-- each model of the formula gives one of the query on the bits of the cells; each model of the
-- query extends to a model of the formula that gives it; and a clause names a bit of a cell only
-- where some wanted expression may read the cell
pub record FormulasAreQueries : Type 0 where
  pub sound : (q : Query) (truths : List Bool) → IsBlastable q → IsTruth (formula q) truths
      → IsModel q (store_at q.cells (first_bits q) truths)
  pub complete : (q : Query) (store : List ℤ) → IsBlastable q → IsModel q store
      → (truths : List Bool) × IsExtended q store truths
  pub unread : (q : Query) (cell first j : ℕ) (t : IntType) → IsBlastable q
      → slice_get q.cells cell ≡ Some t → slice_get (first_bits q) cell ≡ Some first → j < width t
      → names (first + j) (formula q).clauses ≡ true → wanted_reads q.wanted cell ≡ true

-- every literal's variable, and every bit of a cell, is one of the formula
pub record FormulasAreBelow : Type 0 where
  pub literals : (q : Query) → IsBlastable q
      → AllByRecursion (AreBelow (formula q).vars) (formula q).clauses
  pub cells : (q : Query) → IsBlastable q
      → AllZip (λ t first. first + width t ≤ (formula q).vars) q.cells (first_bits q)

pub formulas_below : CircuitsHaveValues → FormulasAreBelow
formulas_below circuits = record {
  literals = λ q is. formula_below circuits q is.asked is.few;
  cells = λ q is. cells_below circuits q is.asked is.few;
}

pub formulas_are : CircuitsHaveValues → FormulasAreQueries
formulas_are circuits = record {
  sound = λ q truths is model. sound circuits q is.asked is.few truths model;
  complete = λ q store is model.
      let found = complete circuits q is.asked is.few store model in
      (found.truths, record { model = found.model; gives = found.gives });
  unread = λ q cell first j t is at_cell at_first inside named.
      unread circuits q is.asked is.few cell first t j at_cell at_first named;
}
