-- The numbers of the entries that are asked about beside an obligation (this project's own).
use Rattle.std.specs.Prelude.{◌≡◌, ◌<◌, ℕ, List, map, length}
use Rattle.std.specs.List.{AllByRecursion}
use Rattle.cpa_model.specs.declared.facts.Elem.{Elem}
use Rattle.cpa_model.specs.declared.automaton.Cfa.{Cfa}
use Rattle.cpa_recheck_obligations.specs.declared.listing.Obligation.{Obligation}
use Rattle.cpa_recheck_obligations.specs.Forms.{entry_at, rivals_of}

-- they are the numbers of entries, which are the obligation's rivals
pub record AreRivals (cfa : Cfa) (xs : List Elem) (o : Obligation) (numbers : List ℕ) : Type 0 where
  pub same : map (entry_at xs) numbers ≡ rivals_of cfa xs o
  pub below : AllByRecursion (λ n. n < length xs) numbers
