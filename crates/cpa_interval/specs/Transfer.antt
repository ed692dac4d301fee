-- The transfer of bounds (this project's own).
use Rattle.std.specs.Prelude.{ℕ, Bool, List, [], ◌∷◌, Option, None, Some}
use Rattle.cpa_model.specs.declared.program.Cell.{Cell}
use Rattle.cpa_model.specs.declared.facts.Elem.{Elem}
use Rattle.cpa_model.specs.declared.automaton.Edge.{Edge}
use Rattle.cpa_model.specs.declared.automaton.Cfa.{Cfa}
use Rattle.cpa_iface.specs.declared.precisions.Precision.{Precision}
use Rattle.cpa_folds.specs.Tracking.{is_tracked}
use Rattle.cpa_interval_bounds.specs.declared.bounds.Bounds.{Bounds}
use Rattle.cpa_interval.specs.Cells.{cell_bounds, elem_of}
use Rattle.cpa_interval_acts.specs.Acts.{after_act}

-- the element of the cells that are kept, or none
abbrev pub elems_of : (ℕ → Bool) → List Cell → Option (List Bounds) → List Elem
elems_of kept cells None = []
elems_of kept cells (Some bs) = elem_of kept cells bs ∷ []

-- what the edge makes of the element: facts of cells that are not tracked count while the act is
-- done
abbrev pub next_intervals : Cfa → Precision → Elem → Edge → List Elem
next_intervals cfa p e g =
    elems_of (is_tracked p) cfa.cells
    (after_act cfa.cells g.act (cell_bounds cfa.cells e.facts))
