-- Keys: the elements by which entries are told apart, and entries that have a key of their own
-- (this project's own).
use Rattle.std.specs.Prelude.{◌≡◌, ℕ, true, List, [], ◌∷◌, ◌++◌, map, length}
use Rattle.std.specs.Prelude.{if◌then◌else◌, ◌⊎◌, IsTrue}
use Rattle.std.specs.List.{AllByRecursion}
use Rattle.cpa_model.specs.declared.facts.Elem.{Elem}
use Rattle.cpa_iface.specs.declared.entries.Entry.{Entry}
use Rattle.cpa_iface.specs.declared.merging.MergeRule.TheVariants.{Widen}
use Rattle.cpa_composite.specs.Components.{Component}
use Rattle.cpa_composite.specs.Covers.{all_cover}
use Rattle.cpa_composite.specs.Keys.{is_key, key_places}
use Rattle.cpa_reached.specs.Members.{IsIn}
use Rattle.cpa_reached.specs.Entries.{ReachedSet}

-- the elements of the components that are exact on the point or on the stack and keep theirs apart
abbrev pub key_of : List Component → List Elem → List Elem
key_of [] es = []
key_of (c ∷ cs) [] = []
key_of (c ∷ cs) (e ∷ es) = if is_key c then e ∷ key_of cs es else key_of cs es

-- the entries are indexed by the places of those elements, or by none
abbrev pub HasPlaces : List Component → ReachedSet → Type 0
HasPlaces cs r = (r.places ≡ []) ⊎ (r.places ≡ key_places cs)

-- all others widen
abbrev pub WidenBesideKeys : List Component → Type 0
WidenBesideKeys cs = AllByRecursion (λ c. (is_key c ≡ true) ⊎ (c.rule ≡ Widen)) cs

-- no two entries have the same key
abbrev pub HaveOwnKeys : List Component → List Entry → Type 0
HaveOwnKeys cs xs = (e f : Entry) → IsIn e xs → IsIn f xs
    → key_of cs e.elems ≡ key_of cs f.elems → e.number ≡ f.number

-- where it has the key of the successor, the row covers it
abbrev pub CoversKey : List Component → List Elem → List Elem → Type 0
CoversKey cs successor row =
    key_of cs row ≡ key_of cs successor → IsTrue (all_cover cs successor row)

abbrev pub rows_of : List Entry → List (List Elem)
rows_of xs = map (λ e. e.elems) xs

-- The rows before a place, and those behind the ones that are left, cover.
pub record Compared (good : List Elem → Type 0) (rows : List (List Elem)) (place left : ℕ) : Type 0
  where
    pub front : List (List Elem)
    pub todo : List (List Elem)
    pub behind : List (List Elem)
    pub is : rows ≡ front ++ (todo ++ behind)
    pub size : length front ≡ place
    pub count : length todo ≡ left
    pub good_front : AllByRecursion good front
    pub good_behind : AllByRecursion good behind
