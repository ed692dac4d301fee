-- What files in memory tell, and when a read of them fails (this project's own).
use Rattle.std.specs.Prelude.{ℕ, Bool, ◌||◌, ◌&&◌, List, slice_index, Option, is_none}
use Rattle.std.specs.Str.{bytes_eq}
use Rattle.cpa_outside.specs.OutsideMemory.{is_listed, place_of, first_bytes}
use Rattle.cpa_outside.specs.declared.memory_inputs.MemoryInputs.{MemoryInputs}

-- the bytes of the first file of a name, where one is there
abbrev pub stored_bytes : MemoryInputs → List ℕ → Option (List ℕ)
stored_bytes inputs = first_bytes inputs.files.items

-- how many reads of a file that is there have failed, or of all names that are not
abbrev pub failed_reads : MemoryInputs → List ℕ → ℕ
failed_reads inputs name = slice_index inputs.faults.items (place_of inputs.files.items name)

-- the numbers of the reads that fail
abbrev pub failing_reads : MemoryInputs → List ℕ
failing_reads inputs = inputs.calls.numbers.items

-- the number of the next read
abbrev pub next_read : MemoryInputs → ℕ
next_read inputs = inputs.calls.next

-- the next read fails by its number, or the name is not there
abbrev pub read_fails : MemoryInputs → List ℕ → Bool
read_fails inputs name =
    is_listed (failing_reads inputs) (next_read inputs) || is_none (stored_bytes inputs name)

-- two names have one count: they are the same, or no file of either is there
abbrev pub shares_count : MemoryInputs → List ℕ → List ℕ → Bool
shares_count inputs name other = bytes_eq name other ||
    (is_none (stored_bytes inputs name) && is_none (stored_bytes inputs other))
