-- What a sink over a writer holds (this project's own).
use Rattle.std.specs.Prelude.{ℕ, List, Option, None}
use Rattle.cpa_outside.specs.declared.writer_sink.WriterSink.{WriterSink}

-- the writer
abbrev pub writer_of : {W : Type 0} → WriterSink W → W
writer_of sink = sink.out

-- how many writes have failed
abbrev pub failed_writes : {W : Type 0} → WriterSink W → ℕ
failed_writes sink = sink.faults

-- of what was written nothing is told
abbrev pub told_writes : {W : Type 0} → WriterSink W → Option (List ℕ)
told_writes sink = None
