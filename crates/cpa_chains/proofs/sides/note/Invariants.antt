use Rattle.std.proofs.Common.{◌≡◌, ◌||◌, ◌<◌, ℕ, false, length, take}
use Rattle.std.specs.Prelude.{slice_index_or}
use Rattle.cpa_chains.specs.Sides.{has_variable}
use Rattle.cpa_chains.proofs.sides.note.Given as goal

abbrev pub invariant-loop-literal : goal.invariant-loop-literal
invariant-loop-literal l =
    (x : ℕ) → x < length l.initial.table → slice_index_or l.table x false
    ≡ (slice_index_or l.initial.table x false
    || has_variable (take l.literal-index l.literals) x)
