-- What two elements are merged to (CAV 2007, section 2; widening is POPL 1977's).
use Rattle.std.specs.Prelude.{ℕ, ℤ, Bool, true, if◌then◌else◌, List, [], ◌∷◌, Option, None, Some}
use Rattle.std.specs.Prelude.{slice_set}
use Rattle.cpa_ints.specs.declared.integers.IntType.{IntType}
use Rattle.cpa_model.specs.declared.program.Cell.{Cell}
use Rattle.cpa_model.specs.declared.facts.Elem.{Elem}
use Rattle.cpa_model.specs.declared.automaton.Cfa.{Cfa}
use Rattle.cpa_iface.specs.declared.merging.MergeRule.{MergeRule}
use Rattle.cpa_iface.specs.declared.merging.MergeRule.TheVariants.{Sep, Join, Widen}
use Rattle.cpa_interval_bounds.specs.declared.bounds.Bounds.{Bounds}
use Rattle.cpa_interval_bounds.specs.Bounds.{hull}
use Rattle.cpa_interval.specs.Numbers.{near}
use Rattle.cpa_interval.specs.Widening.{widened}
use Rattle.cpa_interval.specs.Cells.{cell_bounds, elem_of_all}
use Rattle.cpa_interval.specs.Covers.{covers}

-- the bounds of a cell of this type, from the old and the new ones
abbrev pub merged_bounds : MergeRule → List ℤ → IntType → Bounds → Bounds → Bounds
merged_bounds Sep ns t old new = old
merged_bounds Join ns t old new = hull old new
merged_bounds Widen ns t old new = widened ns t old new

-- those of each cell
abbrev pub merged_along : MergeRule → List ℤ → List Cell → List Bounds → List Bounds → List Bounds
merged_along rule ns (c ∷ cs) (old ∷ olds) (new ∷ news) =
    merged_bounds rule ns c.ty old new ∷ merged_along rule ns cs olds news
merged_along rule ns cs olds news = []

-- those of one cell, where it is there
abbrev pub merged_at : MergeRule → List ℤ → Option Cell → Option Bounds → Option Bounds
    → Option Bounds
merged_at rule ns (Some c) (Some old) (Some new) = Some (merged_bounds rule ns c.ty old new)
merged_at rule ns c old new = None

-- the bounds with these for the cell, where they are some
abbrev pub put_where : ℕ → Option Bounds → List Bounds → List Bounds
put_where cell None bs = bs
put_where cell (Some b) bs = slice_set bs cell b

abbrev pub merged_all : MergeRule → List ℤ → List Cell → Elem → Elem → Elem
merged_all rule ns cells new old =
    elem_of_all cells
    (merged_along rule ns cells (cell_bounds cells old.facts) (cell_bounds cells new.facts))

-- the old element stays: no rule merges, or it covers the new one, so that nothing grows
abbrev pub is_kept : MergeRule → Elem → Elem → Bool
is_kept Sep new old = true
is_kept Join new old = covers new old
is_kept Widen new old = covers new old

-- the numbers at which the rule stops
abbrev pub numbers_for : MergeRule → Cfa → List ℤ
numbers_for Sep cfa = []
numbers_for Join cfa = []
numbers_for Widen cfa = near cfa

abbrev pub merged : Cfa → MergeRule → Elem → Elem → Elem
merged cfa rule new old =
    if is_kept rule new old then old
    else merged_all rule (numbers_for rule cfa) cfa.cells new old
