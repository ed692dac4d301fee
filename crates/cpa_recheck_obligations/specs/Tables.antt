-- What a table from spots to the numbers of entries shows (this project's own).
use Rattle.std.specs.Prelude.{◌≡◌, ℕ, List, [], Vec, Option, Some, None}
use Rattle.std.specs.Map.{lookup}
use Rattle.std.specs.declared.alloc.Global.{Global}
use Rattle.cpa_recheck_obligations.specs.declared.spots.Spot.{Spot}
use Rattle.cpa_recheck_obligations.specs.Spots.{same_spot}
use Rattle.cpa_recheck_obligations.specs.Obligations.{under}

abbrev pub SpotRows : Type 0
SpotRows = List (Spot × Vec ℕ Global)

abbrev pub items_of : Option (Vec ℕ Global) → List ℕ
items_of (Some ns) = ns.items
items_of None = []

-- the numbers that stand at the spot, none where it is not there
abbrev pub numbers_at : Spot → SpotRows → List ℕ
numbers_at key rows = items_of (lookup (λ own. same_spot key own) rows)

-- at each spot stand exactly the numbers of the entries at just this spot, in order
pub record IsTableOf (spots : List (Option Spot)) (rows : SpotRows) : Type 0 where
  pub under : (key : Spot) → numbers_at key rows ≡ under spots key
