-- Numbers of which some are passed over, each for a reason (this project's own).
use Rattle.std.specs.Prelude.{◌≡◌, ℕ, List, [], ◌∷◌, ◌++◌, Option, Some}
use Rattle.std.specs.List.{AllByRecursion}
use Rattle.cpa_model.specs.declared.facts.Elem.{Elem}
use Rattle.cpa_iface.specs.declared.entries.Entry.{Entry}
use Rattle.cpa_reached.specs.declared.marks.Mark.{Mark}
use Rattle.cpa_reached.specs.Marks.{IsParted}
use Rattle.cpa_reached.specs.Members.{IsIn}

-- The number stands behind some for each of which P holds.
pub record StandsBehind (P : ℕ → Type 0) (ns : List ℕ) (n : ℕ) : Type 0 where
  pub front : List ℕ
  pub behind : List ℕ
  pub is : ns ≡ front ++ n ∷ behind
  pub passed : AllByRecursion P front

-- the second numbers are the first ones, in order, but some for each of which P holds
abbrev pub LeavesOut : (ℕ → Type 0) → List ℕ → List ℕ → Type 0
LeavesOut P ns [] = AllByRecursion P ns
LeavesOut P ns (m ∷ ms) = (s : StandsBehind P ns m) × LeavesOut P s.behind ms

-- The mark tells its row apart from the entry of the number.
pub record IsPassedBy (mark : Option Mark) (row : List Elem) (xs : List Entry) (n : ℕ)
    : Type 0 where
  pub by : Mark
  pub is : mark ≡ Some by
  pub parted : (e : Entry) → IsIn e xs → e.number ≡ n → IsParted by.place row e.elems
