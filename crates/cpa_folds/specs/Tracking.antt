-- Which cells a precision tracks: at first all or none, and more after a path that has no run (ASE
-- 2008, section 2; this project's own).
use Rattle.std.specs.Prelude.{ℕ, ◌==◌, Bool, not, List, [], ◌++◌, length, if◌then◌else◌}
use Rattle.std.specs.List.{filter, list_any, range_with_len}
use Rattle.cpa_model.specs.declared.automaton.Cfa.{Cfa}
use Rattle.cpa_model.specs.declared.automaton.Path.{Path}
use Rattle.cpa_iface.specs.declared.analysis.Settings.{Settings}
use Rattle.cpa_iface.specs.declared.precisions.Precision.{Precision}
use Rattle.cpa_folds.specs.Needed.{needed}

-- the cell is tracked
abbrev pub is_tracked : Precision → ℕ → Bool
is_tracked p cell = list_any (λ tracked. tracked == cell) p.tracked

-- all cells are tracked, or none, by the settings
abbrev pub first_tracking : Cfa → Settings → ℕ → Precision
first_tracking cfa settings limit = record {
  tracked = if settings.tracked_all then range_with_len 0 (length cfa.cells) else [];
  limit = limit;
  preds = [];
}

-- those of the cells that are not tracked are, too
abbrev pub with_cells : List ℕ → Precision → Precision
with_cells cells p = record {
  tracked = p.tracked ++ filter (λ cell. not (is_tracked p cell)) cells;
  limit = p.limit;
  preds = p.preds;
}

-- the cells that are needed along the path are tracked, too
abbrev pub refined : Cfa → Path → Precision → Precision
refined cfa path p = with_cells (needed cfa path) p
