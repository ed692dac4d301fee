-- The pieces of a list that extents name, and what the parts of an arena keep (this project's
-- own).
use Rattle.std.specs.Prelude.{◌≡◌, ℕ, ◌-◌, ◌<◌, ◌≤◌, ◌^◌, ◌++◌, List, take, drop, map, length}
use Rattle.std.specs.Prelude.{slice_index}
use Rattle.std.specs.List.{AllByRecursion}
use Rattle.cpa_sat_arena.specs.declared.index.Index.{Index}
use Rattle.cpa_sat_arena.specs.declared.store.Extent.{Extent}
use Rattle.cpa_sat_arena.specs.declared.store.Store.{Store}
use Rattle.cpa_sat_arena.specs.Hashes.{clause_hash, IsIndexed}

abbrev pub piece : List ℕ → Extent → List ℕ
piece literals extent = take (extent.to - extent.from) (drop extent.from literals)

-- the clauses of the extents
abbrev pub clauses_of : List ℕ → List Extent → List (List ℕ)
clauses_of literals extents = map (piece literals) extents

abbrev pub hashes_of : List Extent → List ℕ
hashes_of extents = map (λ (e : Extent). e.hash) extents

-- the hash of the clause of a number
abbrev pub hash_at : List Extent → ℕ → ℕ
hash_at extents k = slice_index (hashes_of extents) k

-- the extent lies within the literals, and its hash is its clause's
pub record IsFiled (literals : List ℕ) (extent : Extent) : Type 0 where
  pub ends : extent.from ≤ extent.to
  pub within : extent.to ≤ length literals
  pub hash : extent.hash ≡ clause_hash (piece literals extent)

-- more literals at the end
abbrev pub IsKept : List ℕ → List ℕ → Type 0
IsKept old new = (more : List ℕ) × (new ≡ old ++ more)

-- an index of these clauses with room for one more
pub record IsRoomy (extents : List Extent) (index : Index) : Type 0 where
  pub is_indexed : IsIndexed (hash_at extents) (length extents) (length index.heads.items)
      index.heads.items index.nexts.items
  pub room : length extents < length index.nexts.items

pub record IsStored (s : Store) : Type 0 where
  pub filed : AllByRecursion (IsFiled s.literals.items) s.extents.items
  pub is_indexed : IsIndexed (hash_at s.extents.items) (length s.extents.items)
      (length s.index.heads.items)
      s.index.heads.items s.index.nexts.items
  pub few : length s.extents.items < 2 ^ 32
