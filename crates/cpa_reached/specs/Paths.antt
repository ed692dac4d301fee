-- The path that led to an entry, by parents (this project's own).
use Rattle.std.specs.Prelude.{◌≡◌, ℕ, List, [], ◌∷◌, reverse, Some, None}
use Rattle.cpa_iface.specs.declared.entries.Entry.{Entry}
use Rattle.cpa_reached.specs.Members.{IsIn}

-- from this entry the edges lead back, from parent to parent, to an entry without one
abbrev pub LeadsBack : List Entry → ℕ → List ℕ → Type 0
LeadsBack xs n [] = (e : Entry) × IsIn e xs × (e.number ≡ n) × (e.parent ≡ None)
LeadsBack xs n (edge ∷ edges) =
    (e : Entry) × (p : ℕ) × IsIn e xs × (e.number ≡ n) × (e.parent ≡ Some (p, edge))
    × LeadsBack xs p edges

-- the edges lead from an entry without parent to this one, each from the parent of the entry to
-- which it leads
abbrev pub IsPathTo : List Entry → ℕ → List ℕ → Type 0
IsPathTo xs n path = LeadsBack xs n (reverse path)
