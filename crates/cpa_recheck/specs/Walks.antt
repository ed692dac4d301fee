-- What has come of all obligations of a list of entries (this project's own).
use Rattle.std.specs.Prelude.{◌≡◌, List, length}
use Rattle.cpa_model.specs.declared.facts.Elem.{Elem}
use Rattle.cpa_model.specs.declared.automaton.Cfa.{Cfa}
use Rattle.cpa_recheck_obligations.specs.Spots.{as_one}
use Rattle.cpa_recheck_obligations.specs.Obligations.{obligations}
use Rattle.cpa_recheck.specs.declared.checking.Budget.{Budget}
use Rattle.cpa_recheck.specs.declared.checking.Keeping.{Keeping}
use Rattle.cpa_recheck.specs.declared.rechecking.Walked.{Walked}
use Rattle.cpa_recheck.specs.Checks.{IsWalk}

-- so many obligations there are, and this has come of all of them
pub record IsWalked (cfa : Cfa) (entries : List (List Elem)) (budget : Budget) (keeping : Keeping)
    (walked : Walked) : Type 0 where
  pub count : walked.count ≡ length (obligations cfa (as_one entries))
  pub walk : IsWalk cfa entries budget keeping 0 (obligations cfa (as_one entries)) walked.part
