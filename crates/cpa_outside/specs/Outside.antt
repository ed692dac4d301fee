-- What a read and a write leave behind: counts of faults, what was written (this project's own).
use Rattle.std.specs.Prelude.{◌≡◌, ◌≢◌, ℕ, ◌-◌, ◌^◌, ◌<◌, ◌≤◌, List, ◌++◌, length, take, Option}
use Rattle.std.specs.Prelude.{Some, None, Result, Ok, Err}
use Rattle.cpa_outside.specs.declared.reads.ReadFault.{ReadFault}
use Rattle.cpa_outside.specs.declared.reads.ReadFault.TheVariants.{Failed, TooLong, OutOfMemory}

-- a count of faults is greater than before; one that stood at the greatest u64 does not fall
abbrev pub Rose : ℕ → ℕ → Type 0
Rose before now = (before ≤ now) × (before ≢ 2 ^ 64 - 1 → before < now)

-- what was written, where it is told, with more bytes behind it
abbrev pub grown : Option (List ℕ) → List ℕ → Option (List ℕ)
grown None more = None
grown (Some had) more = Some (had ++ more)

-- what was written, where it is told, has grown by a prefix of the bytes
pub record GrewByPrefix (before : Option (List ℕ)) (bytes : List ℕ)
    (now : Option (List ℕ)) : Type 0 where
  pub count : ℕ
  pub within : count ≤ length bytes
  pub grew : now ≡ grown before (take count bytes)

-- the answer is TooLong or Failed
abbrev pub IsTooLongOrFailed : {T : Type 0} → Result T ReadFault → Type 0
IsTooLongOrFailed (Ok _) = ⊥
IsTooLongOrFailed (Err Failed) = Unit {0}
IsTooLongOrFailed (Err TooLong) = Unit {0}
IsTooLongOrFailed (Err OutOfMemory) = ⊥
