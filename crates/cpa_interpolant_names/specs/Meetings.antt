-- Where the cells of a program stand in the formulas of the two parts of a path at a cut, and the
-- variables on which these meet (this project's own; interpolants along a path: McMillan, CAV
-- 2006).
use Rattle.std.specs.Prelude.{ℕ, zero, suc, ◌+◌, ◌<◌, ◌≤◌, ◌^◌, ◌&&◌, if◌then◌else◌, List, []}
use Rattle.std.specs.Prelude.{◌∷◌, Option, None, Some, replicate, slice_set, slice_index_or}
use Rattle.cpa_ints.specs.declared.integers.IntType.{IntType}
use Rattle.cpa_ints.specs.Integers.{width}
use Rattle.cpa_model.specs.declared.program.Cell.{Cell}
use Rattle.cpa_query.specs.Queries.{is_marked}
use Rattle.cpa_form_rules.specs.Forms.{Form, place_now}
use Rattle.cpa_interpolant_bits.specs.declared.bits.Bit.{Bit}
use Rattle.cpa_interpolant_names.specs.declared.gathering.Meeting.{Meeting}
use Rattle.cpa_interpolant_names.specs.declared.gathering.Seen.{Seen}

-- a cell stands at its place in the part before the cut, and as itself in the part behind it
abbrev pub meeting_of : Form → Seen → Seen → ℕ → IntType → Meeting
meeting_of form before behind cell t = record {
  cell = cell;
  ty = t;
  before = slice_index_or before.firsts (place_now form cell) 0;
  behind = slice_index_or behind.firsts cell 0;
  is_shared = is_marked before.reads (place_now form cell)
      && is_marked behind.reads cell;
}

-- cells that follow each other
abbrev pub meetings_from : Form → Seen → Seen → ℕ → List Cell → List Meeting
meetings_from form before behind number [] = []
meetings_from form before behind number (cell ∷ cells) =
    meeting_of form before behind number cell.ty
    ∷ meetings_from form before behind (suc number) cells

-- the values of the first n numbers stand from a place on
abbrev pub written : {A : Type 0} → List (Option A) → ℕ → (ℕ → A) → ℕ → List (Option A)
written xs start value zero = xs
written xs start value (suc n) =
    slice_set (written xs start value n) (start + n) (Some (value n))

-- so it is done for each meeting
abbrev pub all_written : {A : Type 0} → (Meeting → ℕ) → (Meeting → ℕ → A) → (Meeting → ℕ)
    → List (Option A) → List Meeting → List (Option A)
all_written start value count xs [] = xs
all_written start value count xs (m ∷ ms) =
    all_written start value count (written xs (start m) (value m) (count m)) ms

-- the bits of a cell behind the cut have the names of those before it
abbrev pub starts_behind : Meeting → ℕ
starts_behind m = m.behind

abbrev pub variable_before : Meeting → ℕ → ℕ
variable_before m place = m.before + place

abbrev pub all_bits : Meeting → ℕ
all_bits m = width m.ty

abbrev pub named : List (Option ℕ) → Meeting → ℕ → List (Option ℕ)
named names m n = written names (starts_behind m) (variable_before m) n

abbrev pub all_named : List (Option ℕ) → List Meeting → List (Option ℕ)
all_named names ms = all_written starts_behind variable_before all_bits names ms

-- for each of so many variables of the part behind the cut the one of the part before it that it is
abbrev pub names_of : ℕ → List Meeting → List (Option ℕ)
names_of vars ms = all_named (replicate vars None) ms

-- the bits of a cell that both parts read are noted
abbrev pub starts_before : Meeting → ℕ
starts_before m = m.before

abbrev pub bit_at : Meeting → ℕ → Bit
bit_at m place = record { cell = m.cell; ty = m.ty; place = place }

abbrev pub shared_bits : Meeting → ℕ
shared_bits m = if m.is_shared then width m.ty else 0

abbrev pub noted : List (Option Bit) → Meeting → ℕ → List (Option Bit)
noted bits m n = written bits (starts_before m) (bit_at m) n

abbrev pub all_noted : List (Option Bit) → List Meeting → List (Option Bit)
all_noted bits ms = all_written starts_before bit_at shared_bits bits ms

-- for each of so many variables of the part before the cut the bit that it is, of a cell that both
-- parts read
abbrev pub bits_of : ℕ → List Meeting → List (Option Bit)
bits_of vars ms = all_noted (replicate vars None) ms

-- the cell's bits are variables of a formula behind the cut of so many, and those before it have
-- numbers of 32 bits
pub record Fits (vars : ℕ) (m : Meeting) : Type 0 where
  pub behind : m.behind + width m.ty ≤ vars
  pub before : m.before + width m.ty < 2 ^ 32

-- the cell's bits are variables of a formula before the cut of so many
abbrev pub StandsBelow : ℕ → Meeting → Type 0
StandsBelow vars m = m.before + width m.ty ≤ vars
