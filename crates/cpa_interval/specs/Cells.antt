-- What an element says of the cells (CAV 2007, section 2, for intervals: this project's own). A
-- list of bounds has those of each cell.
use Rattle.std.specs.Prelude.{ℕ, ◌+◌, Bool, true, not, ◌&&◌, if◌then◌else◌, List, [], ◌∷◌, ◌++◌}
use Rattle.std.specs.Prelude.{slice_set}
use Rattle.std.specs.Ordering.{int_eq}
use Rattle.cpa_ints.specs.declared.integers.IntType.{IntType}
use Rattle.cpa_ints.specs.Integers.{least, greatest}
use Rattle.cpa_model.specs.declared.program.Cell.{Cell}
use Rattle.cpa_facts.specs.declared.fact.Fact.{Fact}
use Rattle.cpa_facts.specs.declared.fact.Fact.TheVariants.{Within}
use Rattle.cpa_model.specs.declared.facts.Elem.{Elem}
use Rattle.cpa_interval_bounds.specs.declared.bounds.Bounds.{Bounds}
use Rattle.cpa_interval_bounds.specs.Bounds.{bounds}
use Rattle.cpa_interval_acts.specs.Cells.{ranges_of}

-- the bounds with those that the fact gives its cell
abbrev pub with_fact : Fact → List Bounds → List Bounds
with_fact (Within cell lo hi) bs = slice_set bs cell (bounds lo hi)
with_fact fact bs = bs

-- the bounds with those of the facts; of several facts on a cell the first one counts
abbrev pub with_facts : List Fact → List Bounds → List Bounds
with_facts [] bs = bs
with_facts (fact ∷ facts) bs = with_fact fact (with_facts facts bs)

-- the bounds of each cell: those that the facts give, and else all numbers of its type
abbrev pub cell_bounds : List Cell → List Fact → List Bounds
cell_bounds cells facts = with_facts facts (ranges_of cells)

-- the bounds are all numbers of the type
abbrev pub is_whole : IntType → Bounds → Bool
is_whole t b = int_eq b.lo (least t) && int_eq b.hi (greatest t)

-- the fact of a cell, where it is kept and its bounds are not all numbers of its type
abbrev pub fact_of : Bool → ℕ → IntType → Bounds → List Fact
fact_of is_kept cell t b =
    if is_kept && not (is_whole t b) then Within cell b.lo b.hi ∷ [] else []

-- the facts of the cells that are kept, in order, where the lists begin with this cell
abbrev pub facts_from : (ℕ → Bool) → ℕ → List Cell → List Bounds → List Fact
facts_from kept cell [] bs = []
facts_from kept cell (c ∷ cs) [] = []
facts_from kept cell (c ∷ cs) (b ∷ bs) =
    fact_of (kept cell) cell c.ty b ++ facts_from kept (cell + 1) cs bs

abbrev pub elem_of : (ℕ → Bool) → List Cell → List Bounds → Elem
elem_of kept cells bs = record { facts = facts_from kept 0 cells bs }

-- the element of all cells
abbrev pub elem_of_all : List Cell → List Bounds → Elem
elem_of_all = elem_of (λ cell. true)
