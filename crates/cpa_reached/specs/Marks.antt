-- Marks of rows (this project's own). A mark tells which values an element of the row gives to the
-- cells of a run, as one number. Where two marks of one place and run differ, no state lies in both
-- elements.
use Rattle.std.specs.Prelude.{◌≡◌, ◌≢◌, ℕ, zero, suc, ◌+◌, ◌≤◌, nat_lt, ℤ, pos, Bool, false, not}
use Rattle.std.specs.Prelude.{if◌then◌else◌, List, [], ◌∷◌, Option, Some, None, slice_get}
use Rattle.std.specs.List.{AllByRecursion}
use Rattle.cpa_model.specs.declared.states.State.{State}
use Rattle.cpa_facts.specs.declared.fact.Fact.{Fact}
use Rattle.cpa_facts.specs.declared.fact.Fact.TheVariants.{At, Stack, Equals, Within, Truth}
use Rattle.cpa_facts.specs.Prints.{mixed}
use Rattle.cpa_model.specs.declared.facts.Elem.{Elem}
use Rattle.cpa_model.specs.Facts.{Holds}
use Rattle.cpa_iface.specs.declared.entries.Entry.{Entry}
use Rattle.cpa_reached.specs.declared.marks.Mark.{Mark}

-- the value of a cell, 0 where it is not there
abbrev pub value_or : Option ℤ → ℤ
value_or (Some value) = value
value_or None = pos 0

-- the print of so many values, from a cell on
abbrev pub print_of : List ℤ → ℕ → ℕ → ℕ
print_of values first zero = 0
print_of values first (suc count) =
    mixed (print_of values first count) (value_or (slice_get values (first + count)))

-- the values of the state have the print
abbrev pub Counts : State → Mark → Type 0
Counts s m = m.print ≡ print_of s.store.values m.first m.count

-- The element at the place of the mark gives these values to the cells of the run.
pub record IsMarked (m : Mark) (es : List Elem) : Type 0 where
  pub elem : Elem
  pub at : slice_get es m.place ≡ Some elem
  pub counts : (s : State) → Holds elem s → Counts s m

-- so it is where the mark tells anything
abbrev pub Tells : Mark → List Elem → Type 0
Tells m es = 1 ≤ m.count → IsMarked m es

-- The mark of a row tells something, and there is a state of which the element holds.
pub record IsMarkOf (m : Mark) (es : List Elem) : Type 0 where
  pub some : 1 ≤ m.count
  pub marked : IsMarked m es
  pub state : State
  pub holds : Holds marked.elem state

-- the marks are of one place and one run, and of other values
pub record Differ (m k : Mark) : Type 0 where
  pub place : k.place ≡ m.place
  pub first : k.first ≡ m.first
  pub count : k.count ≡ m.count
  pub print : k.print ≢ m.print

-- A mark that differs stands at the number.
pub record DiffersAt (m : Mark) (ms : List Mark) (n : ℕ) : Type 0 where
  pub kept : Mark
  pub at : slice_get ms n ≡ Some kept
  pub differ : Differ m kept

-- A state lies in the one row's element at a place, and not in that of the other row.
pub record IsParted (place : ℕ) (es fs : List Elem) : Type 0 where
  pub elem : Elem
  pub fellow : Elem
  pub at : slice_get es place ≡ Some elem
  pub there : slice_get fs place ≡ Some fellow
  pub state : State
  pub holds : Holds elem state
  pub fails : Holds fellow state → ⊥

-- the mark that stands at the number of an entry tells of its row
pub record HasMark (ms : List Mark) (e : Entry) : Type 0 where
  pub mark : Mark
  pub at : slice_get ms e.number ≡ Some mark
  pub tells : Tells mark e.elems

abbrev pub AreMarked : List Mark → List Entry → Type 0
AreMarked ms xs = AllByRecursion (HasMark ms) xs

-- the fact is the value of a cell, and not of one below
abbrev pub is_above : ℕ → Fact → Bool
is_above least (At point) = false
is_above least (Stack sites) = false
is_above least (Equals cell value) = not (nat_lt cell least)
is_above least (Within cell lo hi) = false
is_above least (Truth expr holds) = false

-- the least cell that may follow it
abbrev pub past : Fact → ℕ
past (At point) = 0
past (Stack sites) = 0
past (Equals cell value) = cell + 1
past (Within cell lo hi) = 0
past (Truth expr holds) = 0

-- the least cell that may follow the facts, where they are values of ascending cells from this one
-- on
abbrev pub past_all : ℕ → List Fact → Option ℕ
past_all least [] = Some least
past_all least (f ∷ fs) = if is_above least f then past_all (past f) fs else None
