-- A reached set as plain data (CAV 2007, section 2: reached and waitlist; precisions are those of
-- ASE 2008; numbers, uses and the journal are this project's own).
use Rattle.std.specs.Prelude.{◌≡◌, ℕ, ◌<◌, ◌≤◌, ◌^◌, List, map, Some}
use Rattle.std.specs.List.{AllByRecursion, filter}
use Rattle.cpa_iface.specs.declared.entries.Entry.{Entry}
use Rattle.cpa_iface.specs.declared.entries.Turn.{Turn}
use Rattle.cpa_iface.specs.declared.merging.Order.{Order}
use Rattle.cpa_iface.specs.declared.merging.Order.TheVariants.{First, Last}
use Rattle.cpa_model.specs.Ascending.{AreAscending}
use Rattle.cpa_reached.specs.Members.{IsIn}

-- The entries that are there, in order of numbers; an entry says itself whether it waits. The rows
-- of the journal, the number that comes next, and the places whose elements are an entry's key.
pub record ReachedSet : Type 0 where
  pub live : List Entry
  pub journal : List Turn
  pub next : ℕ
  pub places : List ℕ

abbrev pub numbers : List Entry → List ℕ
numbers xs = map (λ e. e.number) xs

-- the entries of this list that have the number
pub record IsLive (xs : List Entry) (n : ℕ) : Type 0 where
  pub entry : Entry
  pub is_in : IsIn entry xs
  pub is : entry.number ≡ n

-- Numbers ascend and are used up; a number is at most 2^32 - 1. What an entry names is there.
pub record IsNumbered (r : ReachedSet) : Type 0 where
  pub ascend : AreAscending (numbers r.live)
  pub below : AllByRecursion (λ n. n < r.next) (numbers r.live)
  pub bound : r.next ≤ 2 ^ 32
  pub parents : (e : Entry) (p edge : ℕ) → IsIn e r.live → e.parent ≡ Some (p, edge)
      → IsLive r.live p
  pub users : (e : Entry) (n : ℕ) → IsIn e r.live → IsIn n e.uses → IsLive r.live n

-- the numbers of the entries that wait
abbrev pub waiting_numbers : List Entry → List ℕ
waiting_numbers xs = numbers (filter (λ e. e.waiting) xs)

-- no waiting number comes before this one in the order
abbrev pub ComesFirst : Order → ℕ → ℕ → Type 0
ComesFirst First n m = n ≤ m
ComesFirst Last n m = m ≤ n

-- this number waits, and in the order it comes before all others that do
pub record IsNext (order : Order) (xs : List Entry) (n : ℕ) : Type 0 where
  pub waits : IsIn n (waiting_numbers xs)
  pub first : AllByRecursion (ComesFirst order n) (waiting_numbers xs)
