-- Rules that take cells (this project's own): a rule takes what is taken so far, and gives what it
-- makes and what is taken then.
use Rattle.std.specs.Prelude.{ℕ, ◌==◌, ℤ, pos, List, [], ◌∷◌, ◌++◌, length, map, take, replicate}
use Rattle.std.specs.Prelude.{Option, None, Some, if◌then◌else◌, unwrap_or}
use Rattle.cpa_ints.specs.declared.integers.IntType.{IntType}
use Rattle.cpa_ints.specs.declared.integers.IntType.TheVariants as ty
use Rattle.c_types_rules.specs.declared.meaning.Object.{Object}
use Rattle.c_types_rules.specs.declared.meaning.Meaning.{Meaning}
use Rattle.c_types_rules.specs.Tables.{cells_of, object_named}
use Rattle.cpa_model.specs.declared.program.Cell.{Cell}
use Rattle.c_core_rules.specs.declared.tree.Location.{Location}
use Rattle.c_core_rules.specs.Values.{cell_at}

-- the cells taken so far, in order; the place of the name of each, if it is one of an object or of
-- a parameter; and where those of each object begin, by its number, if it is declared so far
pub record Taken : Type 0 where
  pub cells : List Cell
  pub names : List (Option ℕ)
  pub starts : ℕ → Option ℕ

pub record Made (T : Type 0) : Type 0 where
  pub taken : Taken
  pub made : T

abbrev pub Rule : Type 0 → Type 0
Rule T = Taken → Made T

abbrev pub gives : {T : Type 0} → T → Rule T
gives x taken = record { taken = taken; made = x }

abbrev pub then_by : {S T : Type 0} → Rule S → (S → Rule T) → Rule T
then_by first second taken = let done = first taken in second done.made done.taken

-- rules in order
abbrev pub each : {T : Type 0} → List (Rule T) → Rule (List T)
each [] = gives []
each (rule ∷ rules) = then_by rule (λ first. then_by (each rules) (λ rest. gives (first ∷ rest)))

-- rules for lists, in order: the lists behind each other
abbrev pub in_order : {T : Type 0} → List (Rule (List T)) → Rule (List T)
in_order [] = gives []
in_order (rule ∷ rules) =
    then_by rule (λ before. then_by (in_order rules) (λ behind. gives (before ++ behind)))

-- the number of the next free cell
abbrev pub next_cell : Rule ℕ
next_cell taken = record { taken = taken; made = length taken.cells }

-- a cell of this type, which starts at this value
abbrev pub cell : IntType → ℤ → Cell
cell t n = record { ty = t; start = n }

-- a fresh cell of this type: the next free one, which has no name
abbrev pub fresh : IntType → Rule Location
fresh t taken = record {
  taken = record taken {
    cells = taken.cells ++ cell t (pos 0) ∷ [];
    names = taken.names ++ None ∷ [];
  };
  made = cell_at t (length taken.cells);
}

-- the object of this number begins at this cell
abbrev pub begun : ℕ → ℕ → (ℕ → Option ℕ) → ℕ → Option ℕ
begun number cell starts other = if number == other then Some cell else starts other

-- the cells of an object, one for each element, which start at these values, and at 0 behind them
-- (C11 6.7.9p10 and p21)
abbrev pub cells_with : IntType → ℕ → List ℤ → List Cell
cells_with t count values = map (cell t) (take count (values ++ replicate count (pos 0)))

-- an object takes its cells, the next free ones, each at the place of its name; the first of them
abbrev pub taking : Object → List ℤ → Rule ℕ
taking object values taken = record {
  taken = record {
    cells = taken.cells ++ cells_with object.ty (cells_of object) values;
    names = taken.names ++ replicate (cells_of object) object.place;
    starts = begun object.number (length taken.cells) taken.starts;
  };
  made = length taken.cells;
}

abbrev pub nothing_taken : Taken
nothing_taken = record { cells = []; names = []; starts = λ number. None }

-- the cells of what a name stands for; beside a fault, of nothing
abbrev pub location_in : Taken → Option Meaning → Location
location_in taken found = elim (object_named found) [
  | None ↦ cell_at ty.I32 0
  | Some object ↦ record {
    ty = object.ty;
    base = unwrap_or (taken.starts object.number) 0;
    len = cells_of object;
  }
]

abbrev pub located : Option Meaning → Rule Location
located found taken = gives (location_in taken found) taken

-- a scalar x (6.5.1p2)
abbrev pub scalar_place : Option Meaning → Rule Location
scalar_place found =
    then_by (located found) (λ place. gives (cell_at place.ty place.base))
