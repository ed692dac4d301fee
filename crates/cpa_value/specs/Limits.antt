-- Cells that have had too many values are no longer kept (ASE 2008, section 3, with a limit for
-- each cell).
use Rattle.std.specs.Prelude.{ℕ, ◌==◌, nat_le, ℤ, Bool, true, if◌then◌else◌, List, [], ◌∷◌, ◌++◌}
use Rattle.std.specs.Prelude.{Option, None, Some, length, slice_get, ◌<◌, ⊤}
use Rattle.std.specs.List.{filter, list_any}
use Rattle.std.specs.Ordering.{int_eq}
use Rattle.cpa_facts.specs.declared.fact.Fact.{Fact}
use Rattle.cpa_facts.specs.declared.fact.Fact.TheVariants.{Equals}
use Rattle.cpa_model.specs.declared.facts.Elem.{Elem}
use Rattle.cpa_iface.specs.declared.entries.Entry.{Entry}

-- the values with this one, where it is not among them
abbrev pub noted : List ℤ → ℤ → List ℤ
noted values v = if list_any (λ own. int_eq own v) values then values else values ++ v ∷ []

-- the values with those that the facts give the cell
abbrev pub seen_in : ℕ → List Fact → List ℤ → List ℤ
seen_in cell [] values = values
seen_in cell (Equals own v ∷ facts) values =
    seen_in cell facts (if own == cell then noted values v else values)
seen_in cell (fact ∷ facts) values = seen_in cell facts values

-- the facts that the entry has at this place
abbrev pub facts_of : Option Elem → List Fact
facts_of None = []
facts_of (Some e) = e.facts

-- the values with those that the entries give the cell
abbrev pub seen_along : ℕ → ℕ → List Entry → List ℤ → List ℤ
seen_along cell place [] values = values
seen_along cell place (entry ∷ entries) values =
    seen_along cell place entries (seen_in cell (facts_of (slice_get entry.elems place)) values)

-- the different values of the cell over the element and the entries
abbrev pub seen : Elem → List Entry → ℕ → ℕ → List ℤ
seen e reached place cell = seen_along cell place reached (seen_in cell e.facts [])

-- the fact is kept: its cell has no more different values than the limit
abbrev pub is_kept : ℕ → (ℕ → List ℤ) → Fact → Bool
is_kept limit values (Equals cell v) = nat_le (length (values cell)) limit
is_kept limit values fact = true

-- the element without the facts of cells that have more different values than the limit; a limit
-- of 0 is none
abbrev pub limited : ℕ → Elem → List Entry → ℕ → Elem
limited limit e reached place =
    if limit == 0 then e
    else record { facts = filter (is_kept limit (seen e reached place)) e.facts }

-- the fact gives a value to no cell but the first n
abbrev pub IsOfCell : ℕ → Fact → Type 0
IsOfCell n (Equals cell v) = cell < n
IsOfCell n fact = ⊤
