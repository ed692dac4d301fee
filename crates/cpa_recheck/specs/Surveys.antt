-- What is found once of all entries (this project's own): their weights, and a table of their
-- spots.
use Rattle.std.specs.Prelude.{◌≡◌, List, Option}
use Rattle.cpa_model.specs.declared.facts.Elem.{Elem}
use Rattle.cpa_model.specs.declared.automaton.Cfa.{Cfa}
use Rattle.cpa_recheck_obligations.specs.declared.spots.Spot.{Spot}
use Rattle.cpa_recheck_obligations.specs.Tables.{IsTableOf}
use Rattle.cpa_recheck_weights.specs.Weights.{weights_of}
use Rattle.cpa_recheck.specs.declared.surveying.Survey.{Survey}

pub record IsSurveyOf (cfa : Cfa) (xs : List Elem) (spots : List (Option Spot))
    (survey : Survey) : Type 0 where
  pub weights : survey.weights.items ≡ weights_of cfa.cells xs
  pub table : IsTableOf spots survey.table.numbers.entries
