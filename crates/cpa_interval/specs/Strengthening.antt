-- What other elements say of cells: an Equals is as good as a Within of one number (this project's
-- own).
use Rattle.std.specs.Prelude.{ℕ, Bool, true, false, if◌then◌else◌, List, [], ◌∷◌, Option}
use Rattle.std.specs.Prelude.{Some, option_map, option_and_then}
use Rattle.std.specs.List.{list_any}
use Rattle.cpa_expr.specs.declared.tree.CmpOp.TheVariants as cmp
use Rattle.cpa_model.specs.declared.program.Cell.{Cell}
use Rattle.cpa_facts.specs.declared.fact.Fact.{Fact}
use Rattle.cpa_facts.specs.declared.fact.Fact.TheVariants.{Equals, Within}
use Rattle.cpa_model.specs.declared.facts.Elem.{Elem}
use Rattle.cpa_iface.specs.declared.precisions.Precision.{Precision}
use Rattle.cpa_folds.specs.Tracking.{is_tracked}
use Rattle.cpa_interval_bounds.specs.declared.bounds.Bounds.{Bounds}
use Rattle.cpa_interval_bounds.specs.Bounds.{bounds, only}
use Rattle.cpa_interval.specs.Cells.{cell_bounds, elem_of_all}
use Rattle.cpa_interval_acts.specs.Cuts.{cut_cell}

-- the fact gives a cell bounds
abbrev pub is_bound : Fact → Bool
is_bound (Equals cell v) = true
is_bound (Within cell lo hi) = true
is_bound fact = false

abbrev pub has_bound : Elem → Bool
has_bound e = list_any is_bound e.facts

-- the bounds with what others leave of the cell's, where it is tracked
abbrev pub met_cell : (ℕ → Bool) → ℕ → Bounds → List Bounds → Option (List Bounds)
met_cell tracked cell other bs =
    if tracked cell then cut_cell cmp.Eq cell other bs else Some bs

-- the bounds with what the fact leaves of a tracked cell's; nothing where it leaves no number
abbrev pub met : (ℕ → Bool) → Fact → List Bounds → Option (List Bounds)
met tracked (Equals cell v) bs = met_cell tracked cell (only v) bs
met tracked (Within cell lo hi) bs = met_cell tracked cell (bounds lo hi) bs
met tracked fact bs = Some bs

abbrev pub met_facts : (ℕ → Bool) → List Fact → List Bounds → Option (List Bounds)
met_facts tracked [] bs = Some bs
met_facts tracked (fact ∷ facts) bs =
    option_and_then (met_facts tracked facts) (met tracked fact bs)

abbrev pub met_elems : (ℕ → Bool) → List Elem → List Bounds → Option (List Bounds)
met_elems tracked [] bs = Some bs
met_elems tracked (e ∷ es) bs =
    option_and_then (met_elems tracked es) (met_facts tracked e.facts bs)

-- the element of what is left then; the own one where the others give no bounds
abbrev pub strengthened : List Cell → Precision → Elem → List Elem → Option Elem
strengthened cells p own others =
    if list_any has_bound others
    then option_map (elem_of_all cells)
    (met_elems (is_tracked p) others (cell_bounds cells own.facts))
    else Some own
