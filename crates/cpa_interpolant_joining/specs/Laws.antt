-- The law of joined formulas: their models are pairs of models of the parts that agree. Below the
-- statement, its lemma.
use Rattle.std.specs.Prelude.{ℕ, Bool, List, ◌++◌, take, Option}
use Rattle.std.specs.List.{AllByRecursion}
use Rattle.cpa_cnf.specs.declared.formula.Cnf.{Cnf}
use Rattle.cpa_cnf.specs.Lines.{AreBelow}
use Rattle.cpa_cnf.specs.Models.{IsModel}
use Rattle.cpa_interpolant_joining.specs.Joining.{joined, seen, AreNames, Agree}
use Rattle.cpa_interpolant_joining.specs.lemmas.Clauses.{first_model, second_model, both_model}

-- two formulas whose literals are those of their variables
pub record AreParts (first second : Cnf) : Type 0 where
  pub first_below : AllByRecursion (AreBelow first.vars) first.clauses
  pub second_below : AllByRecursion (AreBelow second.vars) second.clauses

-- A model of the joined formula is one of the first on its variables, and one of the second on what
-- its variables are called. Models of both that agree on the names are one of the joined formula.
pub record PartsHaveModels : Type 0 where
  pub first : (a b : Cnf) (names : List (Option ℕ)) (values : List Bool) → AreParts a b
      → IsModel (joined a b names) values → IsModel a (take a.vars values)
  pub second : (a b : Cnf) (names : List (Option ℕ)) (values : List Bool) → AreParts a b
      → IsModel (joined a b names) values → IsModel b (seen a.vars names b.vars values)
  pub both : (a b : Cnf) (names : List (Option ℕ)) (values others : List Bool) → AreParts a b
      → AreNames a.vars names → Agree names values others → IsModel a values → IsModel b others
      → IsModel (joined a b names) (values ++ others)

pub parts_have_models : PartsHaveModels
parts_have_models = record {
  first = λ a b names values are is.
      first_model a b names are.first_below are.second_below values is;
  second = λ a b names values are is.
      second_model a b names are.first_below are.second_below values is;
  both = λ a b names values others are below agree is other.
      both_model a b names are.first_below are.second_below values others below agree is other;
}
