-- What a search through the calls of a text keeps: marks on bodies, and ranks of bodies. Nothing
-- here is promised to a caller.
use Rattle.std.specs.Prelude.{◌≡◌, ℕ, ◌<◌, ◌≤◌, ◌==◌, Bool, true, false, not, List, slice_index}
use Rattle.std.specs.Prelude.{slice_index_or}
use Rattle.std.specs.List.{count_by, Contains}
use Rattle.c_types_rules.specs.Items.{Call}
use Rattle.c_types_rules.specs.Recursion.{Among, Reaches}

-- it goes from one of so many bodies to another one
pub record IsWithin (bodies : ℕ) (call : Call) : Type 0 where
  pub caller : call.caller < bodies
  pub callee : call.callee < bodies

abbrev pub is_marked : List Bool → ℕ → Bool
is_marked seen body = slice_index_or seen body false

abbrev pub IsMarked : List Bool → ℕ → Type 0
IsMarked seen body = is_marked seen body ≡ true

-- how many bodies have no mark
abbrev pub unmarked : List Bool → ℕ
unmarked seen = count_by not seen

-- what was marked is marked still
pub record Keeps (old new : List Bool) : Type 0 where
  pub kept : (body : ℕ) → IsMarked old body → IsMarked new body

-- only bodies that this one reaches are marked
pub record OnlyReached (calls : List Call) (start : ℕ) (seen : List Bool) : Type 0 where
  pub reached : (body : ℕ) → IsMarked seen body → Reaches calls start body

-- marks are on reached bodies alone if they were so
pub record Grows (calls : List Call) (old new : List Bool) : Type 0 where
  pub only : (start : ℕ) → OnlyReached calls start old → OnlyReached calls start new

-- what a marked body calls is marked
abbrev pub Passes : List Bool → Call → Type 0
Passes seen call = IsMarked seen call.caller → IsMarked seen call.callee

pub record IsClosed (calls : List Call) (seen : List Bool) : Type 0 where
  pub passes : (call : Call) → Among call calls → Passes seen call

-- the rank of a body does not fall along a call
abbrev pub DoesNotFall : List ℕ → Call → Type 0
DoesNotFall ranks call = slice_index ranks call.caller ≤ slice_index ranks call.callee

-- both bodies have one rank
abbrev pub is_level : List ℕ → Call → Bool
is_level ranks call = slice_index ranks call.caller == slice_index ranks call.callee

-- the call leads back
abbrev pub IsCircular : List Call → Call → Type 0
IsCircular calls call = Reaches calls call.callee call.caller

-- each call that leads back is among these
abbrev pub HasCircular : List Call → List Call → Type 0
HasCircular calls found =
    (call : Call) → Among call calls → IsCircular calls call → Contains found call
