-- The entries that have a key: the same elements at some places (this project's own).
use Rattle.std.specs.Prelude.{ℕ, List, map}
use Rattle.std.specs.List.{filter}
use Rattle.cpa_model.specs.declared.facts.Elem.{Elem}
use Rattle.cpa_iface.specs.declared.entries.Entry.{Entry}
use Rattle.cpa_reached_key.specs.Rows.{same_row, picked}

-- their numbers, in order
abbrev pub keyed : List ℕ → List Elem → List Entry → List ℕ
keyed places row xs =
    map (λ e. e.number) (filter (λ e. same_row (picked places e.elems) row) xs)
