-- The journal of a round: which rows may come one after another (this project's own).
use Rattle.std.specs.Prelude.{◌≡◌, ℕ, ◌<◌, true, List, [], ◌∷◌, ◌++◌, map, ⊤, ◌⊎◌}
use Rattle.std.specs.List.{flat_map}
use Rattle.cpa_iface.specs.declared.entries.Entry.{Entry}
use Rattle.cpa_iface.specs.declared.entries.Turn.{Turn}
use Rattle.cpa_reached.specs.Members.{IsIn}
use Rattle.cpa_reached.specs.Entries.{ReachedSet}
use Rattle.cpa_engine_turn.specs.Turns.{firsts, seconds}

-- the numbers that a row brings
abbrev pub brought : Turn → List ℕ
brought row = row.added ++ seconds row.replaced

-- all numbers of a row
abbrev pub numbers_of : Turn → List ℕ
numbers_of row = row.taken ∷ firsts row.replaced ++ brought row

abbrev pub all_brought : List Turn → List ℕ
all_brought rows = flat_map brought rows

abbrev pub all_taken : List Turn → List ℕ
all_taken rows = map (λ row. row.taken) rows

abbrev pub all_replaced : List Turn → List ℕ
all_replaced rows = flat_map (λ row. firsts row.replaced) rows

abbrev pub all_numbers : List Turn → List ℕ
all_numbers rows = flat_map numbers_of rows

-- each number of the one list is below each of the other
abbrev pub AreBelow : List ℕ → List ℕ → Type 0
AreBelow ns ms = (n m : ℕ) → IsIn n ns → IsIn m ms → n < m

-- The row may come behind these, in a round that began with these numbers.
pub record MayFollow (began : List ℕ) (rows : List Turn) (row : Turn) : Type 0 where
  -- what it brings is above all that came before
  pub above_first : AreBelow began (brought row)
  pub above_earlier : AreBelow (all_numbers rows) (brought row)
  pub above_taken : AreBelow (row.taken ∷ []) (brought row)
  -- what it took was there, was not replaced, and was not taken before
  pub known : IsIn row.taken began ⊎ IsIn row.taken (all_brought rows)
  pub lasts : IsIn row.taken (all_replaced rows) → ⊥
  pub once : IsIn row.taken (all_taken rows) → ⊥

-- each row may follow those before it
abbrev pub MayCome : List ℕ → List Turn → List Turn → Type 0
MayCome began before [] = ⊤
MayCome began before (row ∷ rows) =
    MayFollow began before row × MayCome began (before ++ row ∷ []) rows

-- the rows of a round that began with these numbers
abbrev pub IsJournal : List ℕ → List Turn → Type 0
IsJournal began rows = MayCome began [] rows

-- The journal of a reached set, which tells how its entries came: each was there or was brought,
-- has
-- not been replaced, and where it waits it was not taken.
pub record IsJournalOf (began : List ℕ) (r : ReachedSet) : Type 0 where
  pub journal : IsJournal began r.journal
  pub began_below : (n : ℕ) → IsIn n began → n < r.next
  pub rows_below : (n : ℕ) → IsIn n (all_numbers r.journal) → n < r.next
  pub known : (e : Entry) → IsIn e r.live → IsIn e.number began
      ⊎ IsIn e.number (all_brought r.journal)
  pub lasts : (e : Entry) → IsIn e r.live → IsIn e.number (all_replaced r.journal) → ⊥
  pub untaken : (e : Entry) → IsIn e r.live → e.waiting ≡ true
      → IsIn e.number (all_taken r.journal) → ⊥
