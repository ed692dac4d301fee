-- The transfer of known values (this project's own).
use Rattle.std.specs.Prelude.{ℕ, ℤ, Bool, List, [], ◌∷◌, Option, None, Some, length}
use Rattle.cpa_model.specs.declared.facts.Elem.{Elem}
use Rattle.cpa_model.specs.declared.automaton.Edge.{Edge}
use Rattle.cpa_model.specs.declared.automaton.Cfa.{Cfa}
use Rattle.cpa_iface.specs.declared.precisions.Precision.{Precision}
use Rattle.cpa_folds.specs.Tracking.{is_tracked}
use Rattle.cpa_value_changes.specs.Cells.{known_cells}
use Rattle.cpa_value.specs.Cells.{elem_of}
use Rattle.cpa_value_changes.specs.Acts.{after_act}

-- the element of the tracked cells, or none
abbrev pub elems_of : (ℕ → Bool) → Option (List (Option ℤ)) → List Elem
elems_of tracked None = []
elems_of tracked (Some cells) = elem_of tracked cells ∷ []

-- what the edge makes of the element: facts of cells that are not tracked count while the act is
-- done
abbrev pub next_values : Cfa → Precision → Elem → Edge → List Elem
next_values cfa p e g =
    elems_of (is_tracked p)
    (after_act (is_tracked p) g.act (known_cells (length cfa.cells) e.facts))
