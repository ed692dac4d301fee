-- What a sink in memory holds, and when a write to it fails (this project's own).
use Rattle.std.specs.Prelude.{ℕ, ◌-◌, min, Bool, ◌||◌, ◌&&◌, ◌==◌, not, List, length}
use Rattle.cpa_outside.specs.OutsideMemory.{is_listed}
use Rattle.cpa_outside.specs.declared.memory_sink.MemorySink.{MemorySink}

-- the bytes that were written
abbrev pub sink_bytes : MemorySink → List ℕ
sink_bytes sink = sink.bytes.items

-- how many writes have failed
abbrev pub failed_writes : MemorySink → ℕ
failed_writes sink = sink.faults

-- how many bytes can be written in all
abbrev pub sink_room : MemorySink → ℕ
sink_room sink = sink.room

-- how many bytes one write takes at most
abbrev pub sink_most : MemorySink → ℕ
sink_most sink = sink.most

-- the numbers of the writes that fail
abbrev pub failing_writes : MemorySink → List ℕ
failing_writes sink = sink.calls.numbers.items

-- the number of the next write
abbrev pub next_write : MemorySink → ℕ
next_write sink = sink.calls.next

-- how many bytes of a piece the next write takes: the least of its length, the most and the room
-- left
abbrev pub taken_of : MemorySink → List ℕ → ℕ
taken_of sink piece =
    min (length piece) (min (sink_most sink) (sink_room sink - length (sink_bytes sink)))

-- the next write fails by its number, or takes nothing of a piece that is not empty
abbrev pub write_fails : MemorySink → List ℕ → Bool
write_fails sink piece =
    is_listed (failing_writes sink) (next_write sink) ||
    (not (length piece == 0) && (taken_of sink piece == 0))
