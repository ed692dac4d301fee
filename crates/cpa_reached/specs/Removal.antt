-- What `remove_below` leaves (this project's own): descendants by parents, and the entries that
-- wait again.
use Rattle.std.specs.Prelude.{◌≡◌, ℕ, true, not, List, map, Some, if◌then◌else◌}
use Rattle.std.specs.List.{filter}
use Rattle.cpa_iface.specs.declared.entries.Entry.{Entry}
pub use Rattle.cpa_reached_opening.specs.Opening.{is_opened, opened}
use Rattle.cpa_reached.specs.Members.{IsIn, is_in}

-- The number is that of a strict descendant of the pivot, by parents.
pub data IsBelow (xs : List Entry) (pivot : ℕ) : ℕ → Type 0 where
  child : (n edge : ℕ) (e : Entry) → IsIn e xs → e.number ≡ n → e.parent ≡ Some (pivot, edge)
      → IsBelow xs pivot n
  further : (n p edge : ℕ) (e : Entry) → IsIn e xs → e.number ≡ n → e.parent ≡ Some (p, edge)
      → IsBelow xs pivot p → IsBelow xs pivot n

-- what is left of a kept entry
abbrev pub left : List ℕ → ℕ → Entry → Entry
left gone pivot e = if is_opened gone pivot e then opened e else e

-- the entries of these numbers are gone
abbrev pub without : List ℕ → List Entry → List Entry
without gone xs = filter (λ e. not (is_in e.number gone)) xs

-- exactly the strict descendants of the pivot are gone
pub record RemovesBelow (pivot : ℕ) (old new : List Entry) : Type 0 where
  pub gone : List ℕ
  pub all : (n : ℕ) → IsBelow old pivot n → is_in n gone ≡ true
  pub only : (n : ℕ) → is_in n gone ≡ true → IsBelow old pivot n
  pub is : new ≡ map (left gone pivot) (without gone old)

-- the numbers of exactly the strict descendants of the pivot
pub record AreBelow (pivot : ℕ) (xs : List Entry) (ns : List ℕ) : Type 0 where
  pub all : (n : ℕ) → IsBelow xs pivot n → is_in n ns ≡ true
  pub only : (n : ℕ) → is_in n ns ≡ true → IsBelow xs pivot n
