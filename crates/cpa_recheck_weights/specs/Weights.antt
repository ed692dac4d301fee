-- What elements weigh over cells of given types (this project's own).
use Rattle.std.specs.Prelude.{ℕ, ◌-◌, ◌^◌, min, List, map, Option, None, Some}
use Rattle.cpa_ints.specs.declared.integers.IntType.{IntType}
use Rattle.cpa_ints.specs.declared.integers.IntType.TheVariants as ty
use Rattle.cpa_model.specs.declared.program.Cell.{Cell}
use Rattle.cpa_model.specs.declared.facts.Elem.{Elem}
use Rattle.cpa_form_rules.specs.Forms.{elem_weight, places_from}

-- the weight of each element, or the greatest number of 64 bits where it is more
abbrev pub weights_of : List Cell → List Elem → List ℕ
weights_of cells = map (λ e. min (elem_weight (places_from 0 cells) e) (2 ^ 64 - 1))

-- the weight, where there is one
abbrev pub weight_in : Option ℕ → ℕ
weight_in None = 0
weight_in (Some weight) = weight

-- the type of a cell; that of a form where it is not there
abbrev pub cell_type : Option Cell → IntType
cell_type None = ty.I32
cell_type (Some cell) = cell.ty
