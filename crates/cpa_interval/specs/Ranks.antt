-- How often an element can be widened (this project's own): the rank of the analysis, and its
-- height.
use Rattle.std.specs.Prelude.{ℕ, ◌+◌, ◌*◌, ℤ, Bool, true, false, not, ◌&&◌, List, [], ◌∷◌, length}
use Rattle.cpa_model.specs.declared.program.Cell.{Cell}
use Rattle.cpa_facts.specs.declared.fact.Fact.{Fact}
use Rattle.cpa_model.specs.declared.facts.Elem.{Elem}
use Rattle.cpa_model.specs.declared.automaton.Cfa.{Cfa}
use Rattle.cpa_model.specs.Standing.{same_fact}
use Rattle.cpa_iface.specs.declared.precisions.Precision.{Precision}
use Rattle.cpa_interval_bounds.specs.declared.bounds.Bounds.{Bounds}
use Rattle.cpa_interval.specs.Steps.{thresholds, steps, one_where}
use Rattle.cpa_interval.specs.Cells.{cell_bounds, facts_from}

-- the steps of all cells together
abbrev pub steps_along : List ℤ → List Cell → List Bounds → ℕ
steps_along ns (c ∷ cs) (b ∷ bs) = steps ns c.ty b + steps_along ns cs bs
steps_along ns cs bs = 0

-- the lists of facts are equal
abbrev pub same_facts : List Fact → List Fact → Bool
same_facts [] [] = true
same_facts (f ∷ fs) (g ∷ gs) = same_fact f g && same_facts fs gs
same_facts fs gs = false

-- the element is that of its own bounds: it has no other facts, and these in order
abbrev pub is_regular : List Cell → List Fact → Bool
is_regular cells facts =
    same_facts facts (facts_from (λ cell. true) 0 cells (cell_bounds cells facts))

-- the steps of the bounds, and one more of an element that is not that of its bounds
abbrev pub rank_along : List ℤ → List Cell → List Fact → ℕ
rank_along ns cells facts =
    steps_along ns cells (cell_bounds cells facts) + one_where (not (is_regular cells facts))

abbrev pub rank : Cfa → Elem → ℕ
rank cfa e = rank_along (thresholds cfa) cfa.cells e.facts

-- each end of each cell can move to each threshold and to the end of its type
abbrev pub height : Cfa → Precision → ℕ
height cfa p = 2 * length cfa.cells * (length (thresholds cfa) + 1)
