-- Steps and runs of stores along edges (the store's part of a step: CAV 2007, section 2), and which
-- cells edges write and read.
use Rattle.std.specs.Prelude.{◌≡◌, ℕ, ℤ, ◌⊎◌, IsTrue, List, [], ◌∷◌}
use Rattle.cpa_expr.specs.Cells.{is_within, AreValues}
use Rattle.cpa_model.specs.declared.program.Cell.{Cell}
use Rattle.cpa_model.specs.declared.automaton.Act.{Act}
use Rattle.cpa_model.specs.declared.automaton.Act.TheVariants as act
use Rattle.cpa_model.specs.Expressions.{types_of}
use Rattle.cpa_model.specs.Steps.{StepsStore}
use Rattle.cpa_form_rules.specs.Reading.{ActReads}

-- a store of these cells: a value in range for each
abbrev pub IsStore : List Cell → List ℤ → Type 0
IsStore cells store = AreValues (types_of cells) store

-- a step of the store by the edge with this act
pub record StepsBy (cells : List Cell) (a : Act) (old new : List ℤ) : Type 0 where
  pub before : IsStore cells old
  pub after : IsStore cells new
  pub step : StepsStore cells a old new

-- a run of stores along the edges with these acts, from this store on
abbrev pub RunsFrom : List Cell → List Act → List ℤ → Type 0
RunsFrom cells [] store = IsStore cells store
RunsFrom cells (a ∷ acts) store =
    (next : List ℤ) × StepsBy cells a store next × RunsFrom cells acts next

-- the edge writes the cell
abbrev pub ActWrites : Act → ℕ → Type 0
ActWrites (act.Assign base len index value) cell = IsTrue (is_within base len cell)
ActWrites (act.Input own) cell = cell ≡ own
ActWrites _ cell = ⊥

-- some of the edges reads the cell
abbrev pub SomeActReads : List Act → ℕ → Type 0
SomeActReads [] cell = ⊥
SomeActReads (a ∷ acts) cell = ActReads a cell ⊎ SomeActReads acts cell
