-- What renaming keeps, and what the tests of traps tell. Each record is the contract of a law of
-- src/laws.rt; below it stands its proof, which a lemma of another crate cites.
use Rattle.std.specs.Prelude.{◌≡◌, ℕ, ◌+◌, ◌*◌, ◌<◌, ◌≤◌, ◌^◌, ℤ, IsTrue, List, Some, ◌++◌, length}
use Rattle.cpa_ints.specs.declared.integers.IntType.{IntType}
use Rattle.cpa_ints.specs.declared.integers.IntType.TheVariants as ty
use Rattle.cpa_expr.specs.declared.tree.Expr.{Expr}
use Rattle.cpa_expr.specs.Shape.{type_of, height, IsTyped}
use Rattle.cpa_expr.specs.Values.{truth, value_of}
use Rattle.cpa_expr.specs.Cells.{may_read, AreValues}
use Rattle.cpa_form_renaming.specs.declared.places.Place.{Place}
use Rattle.cpa_form_renaming.specs.Places.{number_at, stand_together, Shows}
use Rattle.cpa_form_renaming.specs.Renaming.{renamed, is_whole, IsReadable}
use Rattle.cpa_form_renaming.specs.TrapTests.{is_trap, trap_test}
use Rattle.cpa_form_renaming.specs.lemmas.Longer as of_longer
use Rattle.cpa_form_renaming.specs.lemmas.Renamed as of_renamed
use Rattle.cpa_form_renaming.specs.lemmas.Runs as of_runs
use Rattle.cpa_form_renaming.specs.lemmas.TestShapes as of_tests
use Rattle.cpa_form_renaming.specs.lemmas.TestValues as of_values

-- Where the places show the cells' values, the renamed expression has the value of the expression,
-- or traps as it does; where they show the types, it is well typed. It has the type and the height
-- of the expression, and reads the places of cells that the expression reads, and nothing else. The
-- arrays stand in one piece where each run of cells that the expression reads stands so.
pub record RenamingKeepsMeanings : Type 0 where
  pub value : (places : List Place) (types : List IntType) (e : Expr) (values store : List ℤ)
      → IsReadable places types e → length types ≡ length places → Shows places values store
      → value_of (renamed places e) values ≡ value_of e store
  pub typed : (places : List Place) (cells types : List IntType) (e : Expr)
      → IsReadable places types e → Shows places cells types → IsTyped cells (renamed places e)
  pub whole : (places : List Place) (e : Expr)
      → ((base len : ℕ) → ((i : ℕ) → i < len → IsTrue (may_read e (base + i)))
      → IsTrue (stand_together places base len))
      → IsTrue (is_whole places e)
  pub same_type : (places : List Place) (e : Expr) → type_of (renamed places e) ≡ type_of e
  pub same_height : (places : List Place) (e : Expr) → height (renamed places e) ≡ height e
  pub reads : (places : List Place) (types : List IntType) (e : Expr) (number : ℕ)
      → IsReadable places types e → IsTrue (may_read (renamed places e) number)
      → (cell : ℕ) × IsTrue (may_read e cell) × (number ≡ number_at places cell)

pub renaming_keeps_meanings : RenamingKeepsMeanings
renaming_keeps_meanings = record {
  value = of_renamed.value;
  typed = of_renamed.typed;
  whole = of_runs.whole_by_runs;
  same_type = of_renamed.same_type;
  same_height = of_renamed.same_height;
  reads = of_renamed.reads;
}

-- The test of a trap is well typed and at most three times as high as the expression, and reads no
-- other cell. It never traps: it is 1 exactly where the expression traps, and else 0. The cells are
-- fewer than 2^63, so that no negative index lies in an array when it counts as an unsigned number.
pub record TrapTestsTell : Type 0 where
  pub typed : (cells : List IntType) (e : Expr) → length cells < 2 ^ 63 → IsTyped cells e
      → IsTyped cells (trap_test e)
  pub is_int : (e : Expr) → type_of (trap_test e) ≡ ty.I32
  pub height : (e : Expr) → height (trap_test e) ≤ 3 * height e
  pub reads : (e : Expr) (cell : ℕ) → IsTrue (may_read (trap_test e) cell)
      → IsTrue (may_read e cell)
  pub value : (cells : List IntType) (e : Expr) (store : List ℤ) → length cells < 2 ^ 63
      → IsTyped cells e → AreValues cells store
      → value_of (trap_test e) store ≡ Some (truth (is_trap (value_of e store)))

pub trap_tests_tell : TrapTestsTell
trap_tests_tell = record {
  typed = of_tests.typed;
  is_int = of_tests.is_int;
  height = of_tests.height_at_most;
  reads = of_tests.reads;
  value = of_values.value;
}

-- A well-typed expression reads cells that are there. Where cells are added behind them, it is well
-- typed and has the value that it had.
pub record CellsBehindChangeNothing : Type 0 where
  pub inside : (cells : List IntType) (cell : ℕ) (e : Expr) → IsTyped cells e
      → IsTrue (may_read e cell) → cell < length cells
  pub typed : (cells more : List IntType) (e : Expr) → IsTyped cells e → IsTyped (cells ++ more) e
  pub value : (cells : List IntType) (e : Expr) (values more : List ℤ) → IsTyped cells e
      → length values ≡ length cells → value_of e (values ++ more) ≡ value_of e values

pub cells_behind_change_nothing : CellsBehindChangeNothing
cells_behind_change_nothing = record {
  inside = of_longer.inside;
  typed = of_longer.typed_more;
  value = of_longer.value_more;
}
