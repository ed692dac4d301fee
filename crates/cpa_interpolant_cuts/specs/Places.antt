-- The law of the places of a part of a path. Below the statement, its lemma.
use Rattle.std.specs.Prelude.{◌≡◌, ℕ, ◌<◌, ◌≤◌, ◌⊎◌, false, IsTrue, List, Some, length, slice_get}
use Rattle.std.specs.List.{AllByRecursion}
use Rattle.cpa_ints.specs.declared.integers.IntType.{IntType}
use Rattle.cpa_model.specs.declared.program.Cell.{Cell}
use Rattle.cpa_model.specs.declared.automaton.Cfa.{Cfa}
use Rattle.cpa_model.specs.Automata.{IsAutomaton}
use Rattle.cpa_model.specs.Expressions.{types_of}
use Rattle.cpa_query.specs.Queries.{wanted_reads}
use Rattle.cpa_form_rules.specs.Runs.{Added}
use Rattle.cpa_form_rules.specs.Forms.{Form, form_of, place_now}
use Rattle.cpa_form_rules.specs.Laws.{IsAddedOf}
use Rattle.cpa_interpolant_cuts.specs.Touching.{IsGone, SomeAddedReads, SomeAddedTouches}
use Rattle.cpa_interpolant_cuts.specs.lemmas.Wholes.{placed}

-- The places of the program's cells in a form from any store on: each has the type of its cell and
-- is the place of no other one; it is the first one, or the cell was read or written. What is
-- wanted reads, of the cells at the beginning, only such as were read.
pub record ArePlaces (cells : List Cell) (added : List Added) (form : Form) : Type 0 where
  pub ty : (cell : ℕ) (t : IntType) → slice_get (types_of cells) cell ≡ Some t
      → slice_get form.query.cells (place_now form cell) ≡ Some t
  pub apart : (c d : ℕ) → c < length cells → d < length cells
      → place_now form c ≡ place_now form d → c ≡ d
  pub moves : (cell : ℕ) → cell < length cells
      → (place_now form cell ≡ cell)
      ⊎ ((length cells ≤ place_now form cell) × SomeAddedTouches added cell)
  pub reads : (cell : ℕ) → cell < length cells → IsTrue (wanted_reads form.query.wanted cell)
      → SomeAddedReads added cell

abbrev pub PlacesStandApart : Type 0
PlacesStandApart =
    (cfa : Cfa) (added : List Added) → IsAutomaton cfa → AllByRecursion (IsAddedOf cfa) added
    → AllByRecursion IsGone added → ArePlaces cfa.cells added (form_of cfa.cells false added)

pub places_stand_apart : PlacesStandApart
places_stand_apart cfa added is are gone =
    let all = placed cfa added is are gone in
    record { ty = all.ty; apart = all.apart; moves = all.moves; reads = all.reads }
