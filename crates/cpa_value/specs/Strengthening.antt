-- What other elements say of cells: a Within of one value is as good as an Equals (this project's
-- own).
use Rattle.std.specs.Prelude.{◌≡◌, ℕ, ℤ, Bool, true, false, ◌&&◌, if◌then◌else◌, List, [], ◌∷◌}
use Rattle.std.specs.Prelude.{Option}
use Rattle.std.specs.Prelude.{None, Some, slice_set, option_map, option_and_then}
use Rattle.std.specs.List.{list_any, slice_index_or}
use Rattle.std.specs.Ordering.{int_eq}
use Rattle.cpa_facts.specs.declared.fact.Fact.{Fact}
use Rattle.cpa_facts.specs.declared.fact.Fact.TheVariants.{Within}
use Rattle.cpa_model.specs.declared.facts.Elem.{Elem}
use Rattle.cpa_iface.specs.declared.precisions.Precision.{Precision}
use Rattle.cpa_folds.specs.Tracking.{is_tracked}
use Rattle.cpa_value.specs.declared.strengthening.Agreement.{Agreement}
use Rattle.cpa_value.specs.declared.strengthening.Agreement.TheVariants as agreement
use Rattle.cpa_value_changes.specs.Cells.{known_cells}
use Rattle.cpa_value.specs.Cells.{elem_of}

-- the fact leaves a tracked cell one value
abbrev pub is_point : (ℕ → Bool) → Fact → Bool
is_point tracked (Within cell lo hi) = int_eq lo hi && tracked cell
is_point tracked fact = false

abbrev pub has_point : (ℕ → Bool) → Elem → Bool
has_point tracked e = list_any (is_point tracked) e.facts

-- the cell has the value, beside what is known of it
abbrev pub agreed : ℕ → ℤ → Option ℤ → List (Option ℤ) → Option (List (Option ℤ))
agreed cell v None cells = Some (slice_set cells cell (Some v))
agreed cell v (Some known) cells = if int_eq known v then Some cells else None

-- with what the fact says; nothing where a cell would have two values
abbrev pub met : (ℕ → Bool) → Fact → List (Option ℤ) → Option (List (Option ℤ))
met tracked (Within cell lo hi) cells =
    if int_eq lo hi && tracked cell
    then agreed cell lo (slice_index_or cells cell None) cells
    else Some cells
met tracked fact cells = Some cells

abbrev pub met_facts : (ℕ → Bool) → List Fact → List (Option ℤ) → Option (List (Option ℤ))
met_facts tracked [] cells = Some cells
met_facts tracked (fact ∷ facts) cells =
    option_and_then (met_facts tracked facts) (met tracked fact cells)

abbrev pub met_elems : (ℕ → Bool) → List Elem → List (Option ℤ) → Option (List (Option ℤ))
met_elems tracked [] cells = Some cells
met_elems tracked (e ∷ es) cells =
    option_and_then (met_elems tracked es) (met_facts tracked e.facts cells)

-- The element of all that is known then; the own one where the others leave no tracked cell one
-- value.
abbrev pub strengthened : ℕ → Precision → Elem → List Elem → Option Elem
strengthened n p own others =
    if list_any (has_point (is_tracked p)) others
    then option_map (elem_of (λ cell. true))
    (met_elems (is_tracked p) others (known_cells n own.facts))
    else Some own

-- what is said of the values where they are these: no more, another value, or something that is
-- left open
abbrev pub Agrees : Agreement → (List (Option ℤ) → Option (List (Option ℤ))) → List (Option ℤ)
    → Type 0
Agrees agreement.Same says cells = says cells ≡ Some cells
Agrees agreement.Other says cells = says cells ≡ None
Agrees agreement.More says cells = Unit {0}
