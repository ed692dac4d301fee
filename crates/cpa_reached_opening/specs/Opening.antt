-- Which entries wait again once others are gone, and what becomes of them (this project's own).
use Rattle.std.specs.Prelude.{◌≡◌, ℕ, ◌==◌, Bool, true, not, ◌&&◌, ◌||◌, ◌⊎◌, List, []}
use Rattle.std.specs.List.{list_any}
use Rattle.cpa_iface.specs.declared.entries.Entry.{Entry}
use Rattle.cpa_reached_opening.specs.Members.{IsIn, is_in}

-- One of these entries covered a successor of this one.
pub record UsesOneOf (gone : List ℕ) (e : Entry) : Type 0 where
  pub used : ℕ
  pub uses : IsIn used e.uses
  pub goes : IsIn used gone

-- The entry stays, and its successors are lost: those of the pivot go, and those of an entry whose
-- successor was covered by what goes are covered no more.
pub record WaitsAgain (gone : List ℕ) (pivot : ℕ) (e : Entry) : Type 0 where
  pub stays : IsIn e.number gone → ⊥
  pub loses : (e.number ≡ pivot) ⊎ UsesOneOf gone e

-- it is the pivot, or an entry that covered a successor of its own is gone
abbrev pub is_opened : List ℕ → ℕ → Entry → Bool
is_opened gone pivot e = (e.number == pivot) || list_any (λ n. is_in n gone) e.uses

-- it is kept, and waits again
abbrev pub waits_again : List ℕ → ℕ → Entry → Bool
waits_again gone pivot e = not (is_in e.number gone) && is_opened gone pivot e

-- it uses nothing, and waits
abbrev pub opened : Entry → Entry
opened e = record e { uses = []; waiting = true }
