-- The cells taken so far, of which those of objects are found by hash (this project's own).
use Rattle.std.specs.Prelude.{ℕ, ℤ, pos, List, [], ◌∷◌, Option, nat_eq}
use Rattle.std.specs.HashMap.{HashMap, get}
use Rattle.c_core_rules.specs.Cells.{Taken}
use Rattle.c_lower_values.specs.declared.cells.Cells.{Cells}

abbrev pub found_starts : {S : Type 0} → HashMap ℕ ℕ S → ℕ → Option ℕ
found_starts starts number = get nat_eq starts number

unfoldable pub so_far : Cells → Taken
so_far cells = record {
  cells = cells.cells.items;
  names = cells.names.items;
  starts = found_starts cells.starts;
}

-- what a cell starts at that takes the first of these values, and the values behind it
abbrev pub first_value : List ℤ → ℤ
first_value [] = pos 0
first_value (n ∷ ns) = n

abbrev pub values_behind : List ℤ → List ℤ
values_behind [] = []
values_behind (n ∷ ns) = ns
