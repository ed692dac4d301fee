-- The parts of a reached set together. Nothing here is promised to a caller.
use Rattle.std.specs.Prelude.{◌≡◌, ℕ, not, ◌==◌, List, length}
use Rattle.std.specs.List.{filter}
use Rattle.cpa_reached.specs.declared.marks.Mark.{Mark}
use Rattle.cpa_reached.specs.declared.table.Table.{Table}
use Rattle.cpa_reached.specs.Indexes.{IsIndex}
use Rattle.cpa_reached.specs.Kept.{IsKept}
use Rattle.cpa_reached.specs.Marks.{AreMarked}

abbrev pub IsKeptTable : Table → Type 0
IsKeptTable t = IsKept t.entries.items t.links.items t.waiting.items t.next

-- the index is that of the entries
abbrev pub IsIndexedTable : Table → Type 0
IsIndexedTable t = IsIndex t.places t.entries.items t.index.entries

-- With the marks of all numbers that were given out, each entry's at its number.
pub record IsWholeTable (t : Table) (ms : List Mark) : Type 0 where
  pub kept : IsKeptTable t
  pub indexed : IsIndexedTable t
  pub marked : AreMarked ms t.entries.items
  pub counted : length ms ≡ t.next

-- this number is taken out of the waiting ones
abbrev pub but : ℕ → List ℕ → List ℕ
but n ns = filter (λ m. not (m == n)) ns
