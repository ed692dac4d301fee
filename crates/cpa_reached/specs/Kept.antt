-- What a reached set keeps beside its entries, and what holds of it. Nothing here is promised to a
-- caller.
use Rattle.std.specs.Prelude.{◌≡◌, ℕ, ◌+◌, ◌≤◌, ◌^◌, ◌<◌, ◌==◌, Bool, true, false, not, ◌&&◌, List}
use Rattle.std.specs.Prelude.{[]}
use Rattle.std.specs.Prelude.{◌∷◌, ◌++◌, map, Option, Some, None, if◌then◌else◌}
use Rattle.std.specs.List.{AllByRecursion, filter, list_any}
use Rattle.cpa_iface.specs.declared.entries.Entry.{Entry}
use Rattle.cpa_reached.specs.declared.links.Link.{Link}
use Rattle.cpa_model.specs.Ascending.{AreAscending}
use Rattle.cpa_reached.specs.Members.{IsIn, is_in}
use Rattle.cpa_reached.specs.Entries.{numbers, waiting_numbers}
use Rattle.cpa_reached.specs.Calls.{renamed}
use Rattle.cpa_reached.specs.Removal.{left, opened}
pub use Rattle.cpa_reached_opening.specs.Opening.{waits_again}

-- the item of this key becomes what f makes of it
abbrev pub at_key : {X : Type 0} → (X → ℕ) → ℕ → (X → X) → List X → List X
at_key key n f xs = map (λ x. if key x == n then f x else x) xs

abbrev pub link_numbers : List Link → List ℕ
link_numbers ls = map (λ l. l.number) ls

abbrev pub at_link : ℕ → (Link → Link) → List Link → List Link
at_link n f ls = at_key (λ l. l.number) n f ls

-- it lists one more namer
abbrev pub lists : ℕ → Link → Link
lists by l = record l { namers = l.namers ++ by ∷ [] }

abbrev pub link : ℕ → ℕ → List ℕ → Link
link n depth namers = record { number = n; depth = depth; namers = namers }

-- how deep the entry of this number lies
abbrev pub depth_of : ℕ → List Link → ℕ
depth_of n [] = 0
depth_of n (l ∷ ls) = if l.number == n then l.depth else depth_of n ls

-- the entry of number n is listed to be named by that of number m
abbrev pub is_named_by : List Link → ℕ → ℕ → Bool
is_named_by ls n m = list_any (λ l. (l.number == n) && is_in m l.namers) ls

-- the entries of other numbers, and that of this one
abbrev pub other_links : ℕ → List Link → List Link
other_links n ls = filter (λ l. not (l.number == n)) ls

abbrev pub those_links : ℕ → List Link → List Link
those_links n ls = filter (λ l. l.number == n) ls

-- the link of what takes the place of an entry
abbrev pub renumbered : ℕ → Link → Link
renumbered next l = record l { number = next }

-- What an entry of this number, parent and uses names lists it, and it lies one deeper than its
-- parent.
pub record IsTied (ls : List Link) (n : ℕ) (parent : Option (ℕ × ℕ)) (uses : List ℕ) : Type 0 where
  pub root : parent ≡ None → depth_of n ls ≡ 0
  pub depth : (p edge : ℕ) → parent ≡ Some (p, edge) → depth_of n ls ≡ depth_of p ls + 1
  pub child : (p edge : ℕ) → parent ≡ Some (p, edge) → is_named_by ls p n ≡ true
  pub user : (k : ℕ) → IsIn k uses → is_named_by ls k n ≡ true
  pub shallow : depth_of n ls ≤ n

-- The links are those of the entries, and tie them.
pub record IsTree (xs : List Entry) (ls : List Link) : Type 0 where
  pub ascend : AreAscending (numbers xs)
  pub same : link_numbers ls ≡ numbers xs
  pub tied : (e : Entry) → IsIn e xs → IsTied ls e.number e.parent e.uses

-- What holds of a reached set's parts between calls.
pub record IsKept (xs : List Entry) (ls : List Link) (ws : List ℕ) (next : ℕ) : Type 0 where
  pub tree : IsTree xs ls
  pub below : AllByRecursion (λ n. n < next) (numbers xs)
  pub bound : next ≤ 2 ^ 32
  pub waits : ws ≡ waiting_numbers xs

-- the entries of these numbers name the next one where they named the old one
abbrev pub renamed_among : List ℕ → ℕ → ℕ → Entry → Entry
renamed_among ns old next e = if is_in e.number ns then renamed old next e else e

-- the entry of this number has a parent
pub record HasParent (xs : List Entry) (n : ℕ) : Type 0 where
  pub entry : Entry
  pub is_in : IsIn entry xs
  pub is : entry.number ≡ n
  pub parent : ℕ × ℕ
  pub has : entry.parent ≡ Some parent

-- the parent is one of these
abbrev pub parent_in : List ℕ → Option (ℕ × ℕ) → Bool
parent_in ns None = false
parent_in ns (Some p) = is_in p.0 ns

abbrev pub has_parent_in : List ℕ → Entry → Bool
has_parent_in ns e = parent_in ns e.parent

-- the entries of these numbers wait, and use nothing
abbrev pub opened_among : List ℕ → Entry → Entry
opened_among ns e = if is_in e.number ns then opened e else e

-- it is kept, and waits afterwards
abbrev pub waits_after : List ℕ → ℕ → Entry → Bool
waits_after gone pivot e = not (is_in e.number gone) && (left gone pivot e).waiting

-- the links of these numbers are gone
abbrev pub without_links : List ℕ → List Link → List Link
without_links gone ls = filter (λ l. not (is_in l.number gone)) ls
