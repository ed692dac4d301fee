-- What a table from keys to numbers shows. Nothing here is promised to a caller.
use Rattle.std.specs.Prelude.{◌≡◌, ℕ, List, [], ◌∷◌, ⊤, Vec, Option, Some, None}
use Rattle.std.specs.Map.{lookup}
use Rattle.std.specs.declared.alloc.Global.{Global}
use Rattle.cpa_model.specs.declared.facts.Elem.{Elem}
use Rattle.cpa_iface.specs.declared.entries.Entry.{Entry}
use Rattle.cpa_reached_key.specs.declared.keys.Key.{Key}
use Rattle.cpa_reached_key.specs.Rows.{picked, same_row}
use Rattle.cpa_reached.specs.Members.{IsIn}
use Rattle.cpa_reached.specs.Keyed.{keyed}

-- the rows of the table: a key may keep an empty list
abbrev pub KeyRows : Type 0
KeyRows = List (Key × Vec ℕ Global)

abbrev pub items_of : Option (Vec ℕ Global) → List ℕ
items_of (Some ns) = ns.items
items_of None = []

-- the numbers that stand under the elements of a key, none where it is not there
abbrev pub numbers_at : List Elem → KeyRows → List ℕ
numbers_at row rows = items_of (lookup (λ key. same_row row key.elems) rows)

-- under each key stand exactly the numbers of the entries that have it
pub record IsIndex (places : List ℕ) (xs : List Entry) (rows : KeyRows) : Type 0 where
  pub under : (row : List Elem) → numbers_at row rows ≡ keyed places row xs

-- the keys of the entries of these numbers, one for each
abbrev pub AreKeysOf : List ℕ → List Entry → List ℕ → List Key → Type 0
AreKeysOf places xs [] [] = ⊤
AreKeysOf places xs [] (k ∷ ks) = ⊥
AreKeysOf places xs (n ∷ ns) [] = ⊥
AreKeysOf places xs (n ∷ ns) (k ∷ ks) =
    ((e : Entry) → IsIn e xs → e.number ≡ n → picked places e.elems ≡ k.elems)
    × AreKeysOf places xs ns ks
